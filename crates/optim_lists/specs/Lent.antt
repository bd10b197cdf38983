-- The arrays of a record as a call is lent them, and as it leaves them. Definitions only.
use Rattle.std.specs.Prelude.{ℕ, List, Float}
use Rattle.std.specs.Borrow.{MutBor}
use Rattle.optim_lists.specs.declared.Lent.{Lent}
use Rattle.optim_lists.specs.declared.Held.{Held}
use Rattle.optim_lists.specs.Lists.{Lists, lists}

-- what they hold as the call begins
abbrev pub lists_in : Lent → Lists
lists_in l =
    lists l.m.now l.w.now l.dx.now l.dg.now l.sx.now l.best.now l.centroid.now l.reflected.now l.points.now l.values.now l.lx.now l.lg.now l.ld.now l.tx.now l.tg.now l.ex.now l.eg.now l.ix.now l.ig.now l.h.now l.steps.now l.changes.now l.factors.now

-- what they hold where they are only read
abbrev pub lists_held : Held → Lists
lists_held l =
    lists l.m.now l.w.now l.dx.now l.dg.now l.sx.now l.best.now l.centroid.now l.reflected.now l.points.now l.values.now l.lx.now l.lg.now l.ld.now l.tx.now l.tg.now l.ex.now l.eg.now l.ix.now l.ig.now l.h.now l.steps.now l.changes.now l.factors.now

-- and as it ends: a clause sees what is behind each array there as a nested pair
abbrev pub LentAtExit : Type 0
LentAtExit =
    MutBor (List ℕ) × (MutBor (List Float) × (MutBor (List Float) × (MutBor (List Float) × (MutBor (List Float) × (MutBor (List Float) × (MutBor (List Float) × (MutBor (List Float) × (MutBor (List (List Float)) × (MutBor (List Float) × (MutBor (List Float) × (MutBor (List Float) × (MutBor (List Float) × (MutBor (List Float) × (MutBor (List Float) × (MutBor (List Float) × (MutBor (List Float) × (MutBor (List Float) × (MutBor (List Float) × (MutBor (List Float) × (MutBor (List (List Float)) × (MutBor (List (List Float)) × (MutBor (List Float) × Unit {0}))))))))))))))))))))))

abbrev pub lists_left : LentAtExit → Lists
lists_left (m, (w, (dx, (dg, (sx, (best, (centroid, (reflected, (points, (values, (lx, (lg, (ld, (tx, (tg, (ex, (eg, (ix, (ig, (h, (steps, (changes, (factors, end))))))))))))))))))))))) =
    lists m.now w.now dx.now dg.now sx.now best.now centroid.now reflected.now points.now values.now lx.now lg.now ld.now tx.now tg.now ex.now eg.now ix.now ig.now h.now steps.now changes.now factors.now
