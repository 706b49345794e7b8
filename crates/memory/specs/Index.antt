-- The index of the held states by open addressing: a row of words, 0 for a free one and k + 1 for node k.
use Rattle.std.specs.Prelude.{◌≡◌, ℕ, zero, suc, ◌+◌, ◌*◌, ◌/◌, ◌%◌, ◌^◌, ◌<◌, ◌≤◌, ◌≢◌, List, [], ◌∷◌, length, slice_index, slice_index_or}

-- 64 bits in which every byte of a state has a part
unfoldable pub fingerprint : List ℕ → ℕ
fingerprint [] = 0
fingerprint (b ∷ s) = ((fingerprint s + (b + 1)) % 2 ^ 64 * 11400714819323198485) % 2 ^ 64

-- the first word that is tried for a state, of so many
abbrev pub hash : ℕ → List ℕ → ℕ
hash slots s = (fingerprint s / 4294967296) % slots

-- the word that is tried after d others, counted round
abbrev pub word_at : List ℕ → List ℕ → ℕ → ℕ
word_at words s d = slice_index words ((hash (length words) s + d) % length words)

-- how many words are in use
abbrev pub used_words : List ℕ → ℕ
used_words [] = 0
used_words (zero ∷ ws) = used_words ws
used_words (suc w ∷ ws) = suc (used_words ws)

-- the state is found at the word that is tried after `probes` others, none of which is free
pub record Findable (words : List ℕ) (s : List ℕ) (k : ℕ) : Type 0 where
  pub probes : ℕ
  pub few : probes < length words
  pub here : word_at words s probes ≡ k + 1
  pub before : (d : ℕ) → d < probes → word_at words s d ≢ 0

-- every held state is found, and every word is of a held state
pub record Indexed (words : List ℕ) (state : ℕ → List ℕ) (held : ℕ) : Type 0 where
  pub valid : (i : ℕ) → i < length words → slice_index words i ≤ held
  pub count : used_words words ≡ held
  pub found : (k : ℕ) → k < held → ∥ Findable words (state k) k ∥₁

-- the word at `at` is free, and the first free one that is tried for the state
pub record Vacant (words : List ℕ) (s : List ℕ) (at : ℕ) : Type 0 where
  pub probes : ℕ
  pub few : probes < length words
  pub is : at ≡ (hash (length words) s + probes) % length words
  pub within : at < length words
  pub free : slice_index_or words at 0 ≡ 0
  pub before : (d : ℕ) → d < probes → word_at words s d ≢ 0
