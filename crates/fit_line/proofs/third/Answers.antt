-- `fit_line::third` meets its contract: the words that are lent are there. Assumes nothing.
use mathlib.Core.Path.{sym}
use lib.Seq.{length-take-le}
use Rattle.fit_line.proofs.Lends.{point_lent}
use Rattle.fit_line.proofs.third.Goals as goal

pub slice_bounds-x-end : goal.slice_bounds-x-end
slice_bounds-x-end c = point_lent _ _ _ c.kept-k.result c.in-Some.ensures c.kept-k.ensures

pub slice_bounds-started-end : goal.slice_bounds-started-end
slice_bounds-started-end c = sym (length-take-le _ _ (point_lent _ _ _ c.kept-k.result c.in-Some.ensures c.kept-k.ensures))
