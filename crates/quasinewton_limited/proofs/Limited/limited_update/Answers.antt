-- `quasinewton_limited::Limited::limited_update` meets its contract: a place is free for the pair. Assumes nothing.
use borrow.Author.Rules.{rules}
use Rattle.quasinewton_limited.proofs.Loops.{free}
use Rattle.quasinewton_limited.proofs.Limited.limited_update.Goals as goal

pub offset_bounds-pairs-k : goal.offset_bounds-pairs-k
offset_bounds-pairs-k c = search (rules, free _ _ _ c.room-kept.ensures c.requires.count_le_memory c.requires.memory_bound)

pub bounds-pairs-k : goal.bounds-pairs-k
bounds-pairs-k c = search (rules, free _ _ _ c.room-kept.ensures c.requires.count_le_memory c.requires.memory_bound)

pub overflow_add-result : goal.overflow_add-result
overflow_add-result c = search (rules, free _ _ _ c.room-kept.ensures c.requires.count_le_memory c.requires.memory_bound)
