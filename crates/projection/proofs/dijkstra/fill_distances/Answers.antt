-- The queue starts empty over memory for each rank.
use Rattle.projection.proofs.dijkstra.fill_distances.Goals as goal

pub expand_all-requires-clause-running : goal.expand_all-requires-clause-running
expand_all-requires-clause-running c = c.seed.ensures.running c.args.row.now
