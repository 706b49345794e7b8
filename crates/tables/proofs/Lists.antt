-- What stands at a place of a row of records, of its maps and of its parts.
use Rattle.std.proofs.Common.{◌≡◌, ℕ, zero, suc, ◌+◌, ◌-◌, ◌<◌, ◌≤◌, List, [], ◌∷◌, map, length, get_or, take, drop, refl, ◌∙◌, arith, length-drop, length-take, get_or-drop, get_or-take}
use Rattle.tables.specs.declared.records.Variable.{Variable}
use Rattle.tables.specs.declared.records.Entry.{Entry}
use Rattle.tables.specs.Records.{zero_variable, zero_entry, part}
use Rattle.tables.specs.Rules.{EntriesFit}
use Rattle.tables.specs.Rules.{EntriesInside}

pub same-list : (xs ys : List ℕ) → length xs ≡ length ys → ((k : ℕ) → k < length xs → get_or xs k 0 ≡ get_or ys k 0) → xs ≡ ys
same-list [] [] l h = refl
same-list [] (y ∷ ys) l h = let z : length {A = ℕ} [] ≡ suc (length ys) = l in absurd (omega arith)
same-list (x ∷ xs) [] l h = let z : suc (length xs) ≡ length {A = ℕ} [] = l in absurd (omega arith)
same-list (x ∷ xs) (y ∷ ys) l h =
    let a : x ≡ y = h 0 (omega arith) in
    let b : xs ≡ ys = same-list xs ys (omega arith) (λ k m. h (suc k) (omega arith)) in
    cc

pub domain-at : (vs : List Variable) (k : ℕ) → get_or (map (λ v. v.domain) vs) k 0 ≡ (get_or vs k zero_variable).domain
domain-at [] k = refl
domain-at (v ∷ vs) zero = refl
domain-at (v ∷ vs) (suc k) = domain-at vs k

pub initial-at : (vs : List Variable) (k : ℕ) → get_or (map (λ v. v.initial) vs) k 0 ≡ (get_or vs k zero_variable).initial
initial-at [] k = refl
initial-at (v ∷ vs) zero = refl
initial-at (v ∷ vs) (suc k) = initial-at vs k

-- an element of a part
pub part_at : {X : Type 0} (xs : List X) (a b k : ℕ) (d : X) → k < length (part xs a b) → (k < b - a) × (a + k < length xs) × (get_or (part xs a b) k d ≡ get_or xs (a + k) d)
part_at xs a b k d l =
    let m : length (take (b - a) (drop a xs)) ≤ b - a = omega (arith, length-take (b - a) (drop a xs)) in
    let n : k < length (drop a xs) = omega (arith, length-take (b - a) (drop a xs)) in
    let q : k < b - a = omega arith in
    (q, omega (arith, length-drop a xs), get_or-take (b - a) (drop a xs) k d q ∙ get_or-drop a xs k d)

pub part-inside : (es : List Entry) (vs : List Variable) (a b n : ℕ) → n ≡ length vs → EntriesFit vs es → EntriesInside (part es a b) n
part-inside es vs a b n e fit k l =
    let p = part_at es a b k zero_entry l in
    rw p.2 (omega (arith, (fit (a + k) p.1).0))
