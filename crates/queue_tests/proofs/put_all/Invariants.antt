-- Each call leaves a sound queue sound, and its rows as long as they were.
use Rattle.queue.specs.Content.{Sound, Rows}
use Rattle.queue_tests.proofs.put_all.Given as goal

abbrev pub invariant-loop-entry : goal.invariant-loop-entry
invariant-loop-entry g l = (Sound g.T.QueueEntry.item_of g.T.QueueEntry.no_later l.initial.queue → Sound g.T.QueueEntry.item_of g.T.QueueEntry.no_later l.queue) × Rows l.initial.queue l.queue
