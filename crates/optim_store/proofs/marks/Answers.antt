-- `optim_store::marks` meets its contract, by its flags. Assumes nothing.
use Rattle.optim_store.proofs.Laws.{marks_by}
use Rattle.optim_store.proofs.marks.Goals as goal

pub returns : goal.returns
returns c =
    marks_by c.args.r c.flag.ensures c.flag-2.ensures c.flag-3.ensures c.flag-4.ensures c.flag-5.ensures c.flag-6.ensures c.flag-7.ensures c.flag-8.ensures c.flag-9.ensures c.flag-10.ensures c.flag-11.ensures
