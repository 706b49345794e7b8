-- That a writing tests its find, then the buffer, and writes the plan's text.
use Rattle.std.proofs.Common.{rules, ◌≡◌, false, ◌++◌, length, drop, refl, ap, ◌∙◌, arith}
use Rattle.task.specs.Model.{model}
use Rattle.task.specs.Names.{operator_name}
use Rattle.tables.specs.declared.cause.Cause.TheVariants as cause
use Rattle.plain.specs.Plain as plain
use Rattle.plain.specs.Plain.{reports, OwnFind, Writes.other, Writes.short, Writes.writes}
use Rattle.plain.proofs.Whole.{path-one}
use Rattle.search.specs.declared.inner.Status.TheVariants.{Found}
use Rattle.memory.specs.Rows.{nodes_of}
use Rattle.memory.specs.Plans.{lines, plan_text}
use Rattle.memory.proofs.Lining.{cost-length, text-length, whole-text}
use Rattle.search.specs.Search.{plain_of, find_of, status_of}
use Rattle.search.proofs.Props.{valid-out}
use Rattle.search.proofs.Advancing.{stands_at}
use Rattle.search.proofs.Writing.{not_own}
use Rattle.search.proofs.search.Search.write.Goals as goal

pub returns-then-ne : goal.returns-then-ne
returns-then-ne c =
    let s = c.args.self.now in
    let f = c.args.find in
    let other-status : s.core.status ≡ Found f → ⊥ = search rules in
    (reports (plain.refusal cause.Other) c.args.buffer.now false (plain_of s.core), other (not_own (model s.task) s.core f (valid-out s.ok) other-status) refl, (refl, refl))

pub lines_len-lines-requires : goal.lines_len-lines-requires
lines_len-lines-requires c =
    let s = c.args.self.now in
    let v = valid-out s.ok in
    let is : s.core.status ≡ Found c.args.find = search rules in
    let h = stands_at (model s.task) s.core (Found c.args.find) is v in
    record { consistent = v.consistent; inside = h.0; tree = h.2 }

pub returns-then-buffer-text : goal.returns-then-buffer-text
returns-then-buffer-text c =
    let s = c.args.self.now in
    let f = find_of c.args.find in
    let is : s.core.status ≡ Found c.args.find = search rules in
    let h = stands_at (model s.task) s.core (Found c.args.find) is (valid-out s.ok) in
    let w = c.lines_len-lines.ensures.path in (
      reports (plain.refusal cause.Short) c.args.buffer.now false (plain_of s.core),
      short w.0 (record { ends = ap status_of is; costs = h.1 }) w.1 (omega (arith, text-length s.task w.0 f.cost, w.2, c.digit_count.ensures)) refl,
      (refl, refl),
    )

pub lines_back-requires : goal.lines_back-requires
lines_back-requires c =
    let s = c.args.self.now in
    let v = valid-out s.ok in
    let is : s.core.status ≡ Found c.args.find = search rules in
    let h = stands_at (model s.task) s.core (Found c.args.find) is v in
    let w = c.lines_len-lines.ensures.path in
    let f = find_of c.args.find in
    record {
      consistent = v.consistent;
      inside = h.0;
      tree = h.2;
      fits = λ is p.
          let q = ap (λ k. length (lines (operator_name s.task) k)) (path-one (nodes_of s.core.memory) c.args.find.node is w.0 p w.1) in
          omega (arith, q, w.2, c.cost.ensures.at, cost-length f.cost, c.digit_count.ensures);
    }

pub returns : goal.returns
returns c =
    let s = c.args.self.now in
    let T = s.task in
    let f = find_of c.args.find in
    let is : s.core.status ≡ Found c.args.find = search rules in
    let h = stands_at (model T) s.core (Found c.args.find) is (valid-out s.ok) in
    let w = c.lines_len-lines.ensures.path in
    let v = c.lines_back.ensures in
    let text = plan_text T w.0 f.cost in
    let len = text-length T w.0 f.cost in
    let done = whole-text T w.0 v.0 f.cost _ c.cost.new.self c.lines_back.new.tail (path-one (nodes_of s.core.memory) f.node v.0 w.0 v.1 w.1) (omega (arith, w.2, c.digit_count.ensures)) c.cost.ensures v.2 in (
      reports (plain.written text) (text ++ drop (length text) c.args.buffer.now) false (plain_of s.core),
      writes w.0 (record { ends = ap status_of is; costs = h.1 }) w.1 (omega (arith, len, w.2, c.digit_count.ensures)) refl,
      (text, refl, omega (arith, len, w.2, c.digit_count.ensures), done ∙ search rules),
    )
