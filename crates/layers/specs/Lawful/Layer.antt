-- A layer over two estimators that keep the laws keeps them.
use Rattle.std.specs.Prelude.{◌≡◌, ℕ, List, length, Some, None, Ok, Err, Option, refl}
use Rattle.std.proofs.Common.{sym, ap, ◌∙◌, subst, true≢false}
use Rattle.task.specs.Model.{Model, IsState}
use Rattle.estimator.specs.Price.{Shares, Admissible, joined}
use Rattle.estimator.specs.Laws.{Meaning, Laws}
use Rattle.estimator.specs.declared.fault.SetFault.{SetFault}
use Rattle.estimator.specs.Lawful.Rows.{held-offer}
use Rattle.layers.specs.Terms.{Terms, TermsLaws}
use Rattle.layers.specs.Layer.{no_offer, first_refuses, second_refuses, takes, idle, asks, Unset, Holds, Sets, Answers, both, layer}
use Rattle.layers.specs.declared.layer.Layer.{Layer}

-- two answers, each admissible at its own prices: what is made of them is so at what is made of the prices
pub both-admits : {t : Terms} → TermsLaws t → (T : Model) (first second state : List ℕ) (a b : Option ℕ) → length first ≡ length second → Admissible T first state a → Admissible T second state b → Admissible T (joined t.price first second) state (both t.answer a b)
both-admits laws T first second state None b e x y = x
both-admits laws T first second state (Some m) None e x y = y
both-admits laws T first second state (Some m) (Some n) e x y = λ p plan. laws.bounds first second p m n e (x p plan) (y p plan)

module _ {F G : Type 0} {t : Terms} {f : Meaning F} {g : Meaning G} (laws : TermsLaws t) (laws-f : Laws f) (laws-g : Laws g) where
  level : {R : Type 0} {s : Layer R F G} {T : Model} {held : List ℕ} (h : Holds t f g s T held) → length h.first ≡ length h.second
  level h = (laws-f.priced h.by_first).long ∙ sym (laws-g.priced h.by_second).long

  accepts-law : {R : Type 0} {kind : ℕ} {s s' : Layer R F G} {T : Model} {row left : List ℕ} {n : ℕ} → Sets kind t f g s T row n (Ok tt) left s' → (held : List ℕ) × Holds t f g s' T held × Shares row held left
  accepts-law (no_offer o r l a b e) = cc
  accepts-law (first_refuses fault o x r l b e) = cc
  accepts-law (second_refuses fault one o x y r l e) = cc
  accepts-law {T = T} {row = row} {left = left} (takes one two o x y r l e) =
      let a = laws-f.accepts x in
      let b = laws-g.accepts y in
      let shares : Shares row (joined t.price a.0 b.0) left = subst (Shares row (joined t.price a.0 b.0)) (sym l) (laws.shares row one two a.0 b.0 a.2 b.2) in (
        joined t.price a.0 b.0,
        record { ready = e; first = a.0; second = b.0; by_first = a.1; by_second = b.1; is = refl; priced = held-offer T row _ left o shares },
        shares,
      )

  refuses-law : {R : Type 0} {kind : ℕ} {s s' : Layer R F G} {T : Model} {row left : List ℕ} {n : ℕ} {fault : SetFault} → Sets kind t f g s T row n (Err fault) left s' → Unset s' × (left ≡ row)
  refuses-law (no_offer o r l a b e) = (e, l)
  refuses-law (first_refuses fault' o x r l b e) = (e, l)
  refuses-law (second_refuses fault' one o x y r l e) = (e, l)
  refuses-law (takes one two o x y r l e) = cc

  admits-law : {R : Type 0} {s s' : Layer R F G} {T : Model} {held state : List ℕ} {a : Option ℕ} → Holds t f g s T held → IsState T state → Answers t f g s T state a s' → Admissible T held state a
  admits-law h st (idle u v e) = absurd (true≢false (sym h.ready ∙ u))
  admits-law {T = T} {state = state} h st (asks one two u x y v e) =
      let i = laws-f.admits h.by_first st x in
      let j = laws-g.admits h.by_second st y in
      rw (v, h.is) (both-admits laws T h.first h.second state one two (level h) i j)

  passes-law : {R : Type 0} {s s' : Layer R F G} {T : Model} {held row : List ℕ} {a : Option ℕ} → Holds t f g s T held → (IsState T row → ⊥) → Answers t f g s T row a s' → a ≡ Some 0
  passes-law h alien (idle u v e) = v
  passes-law h alien (asks one two u x y v e) =
      v ∙ ap (λ o. both t.answer o two) (laws-f.passes h.by_first alien x) ∙ ap (λ o. both t.answer (Some 0) o) (laws-g.passes h.by_second alien y) ∙ ap Some laws.idle

  keeps-law : {R : Type 0} {s s' : Layer R F G} {T : Model} {held row : List ℕ} {a : Option ℕ} → Holds t f g s T held → Answers t f g s T row a s' → Holds t f g s' T held
  keeps-law h (idle u v e) = absurd (true≢false (sym h.ready ∙ u))
  keeps-law h (asks one two u x y v e) =
      record {
        ready = e;
        first = h.first;
        second = h.second;
        is = h.is;
        priced = h.priced;
        by_first = laws-f.keeps h.by_first x;
        by_second = laws-g.keeps h.by_second y;
      }

  idles-law : {R : Type 0} {s s' : Layer R F G} {T : Model} {row : List ℕ} {a : Option ℕ} → Unset s → Answers t f g s T row a s' → (a ≡ Some 0) × Unset s'
  idles-law q (idle u v e) = (v, ap (λ z. z.ready) e ∙ u)
  idles-law q (asks one two u x y v e) = absurd (true≢false (sym u ∙ q))

  unsets-law : {R : Type 0} {s s' : Layer R F G} {T : Model} {row : List ℕ} {a : Option ℕ} → Answers t f g s T row a s' → Unset s' → Unset s
  unsets-law (idle u v e) q = u
  unsets-law (asks one two u x y v e) q = absurd (true≢false (sym e ∙ q))

  pub layer-laws : {R : Type 0} {kind : ℕ} → Laws (layer {R = R} kind t f g)
  layer-laws = record {
    apart = λ u h. true≢false (sym h.ready ∙ u);
    priced = λ h. h.priced;
    accepts = accepts-law;
    refuses = refuses-law;
    admits = admits-law;
    passes = passes-law;
    keeps = keeps-law;
    idles = idles-law;
    unsets = unsets-law;
  }
