-- That an empty memory is consistent.
use Rattle.std.proofs.Common.{◌≤◌, length, sym, refl, subst, arith, rules}
use Rattle.memory.proofs.Words.{indexed-none}
use Rattle.queue.proofs.First.{some-none}
use Rattle.memory.proofs.memory.Memory.open.Goals as goal

pub split_at_mut-words-requires : goal.split_at_mut-words-requires
split_at_mut-words-requires c = omega (arith, c.capacity-capacity.ensures.fits.in_words)

pub returns : goal.returns
returns c =
    let f = c.capacity-capacity.ensures.fits in
    record {
      consistent = record {
        lent = record {
          small = f.small;
          nodes = f.in_nodes;
          states = f.in_states;
          index = omega (arith, c.split_at_mut-words.ensures.front_len);
          entries = subst (λ z. c.capacity-capacity.result ≤ length z) (sym c.new-queue.ensures.entries) f.in_entries;
          places = subst (λ z. c.capacity-capacity.result ≤ length z) (sym c.new-queue.ensures.places) f.in_places;
        };
        within = omega arith;
        indexed = indexed-none _ _ (λ i l. search rules);
        agrees = λ k e q. absurd (some-none _ e q (c.new-queue.ensures.empty k));
      };
      empty = refl;
      variables = refl;
      capacity = c.capacity-capacity.ensures;
      nodes = refl;
      states = refl;
    }
