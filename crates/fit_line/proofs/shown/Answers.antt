-- `fit_line::shown` meets its contract: each of the things that the engine says is put as its line. Assumes nothing.
use mathlib.Core.Path.{refl}
use Rattle.optim_record.specs.Record.{outcome_of}
use Rattle.fit_line.proofs.Shows.{put_is, ask_shown, end_shown, no_shown, search_shown, gradient_shown}
use Rattle.fit_line.proofs.shown.Goals as goal

pub returns-in-Ask : goal.returns-in-Ask
unfolding outcome_of
returns-in-Ask c =
    let a = c.args.a in
    put_is c.args.out.now (ask_shown a.said a.next.n a.x a.g _ _ c.in-Ask.is c.requires) c.put_ask.ensures

pub returns-in-Fitted : goal.returns-in-Fitted
unfolding outcome_of
returns-in-Fitted c =
    let a = c.args.a in
    put_is c.args.out.now (end_shown a.said a.next.n a.x a.g _ c.in-Fitted.is c.requires) c.put_end.ensures

pub returns-in-Searched : goal.returns-in-Searched
unfolding outcome_of
returns-in-Searched c =
    let a = c.args.a in
    put_is c.args.out.now (search_shown a.said a.next.n a.x a.g _ c.in-Searched.is) (refl, refl)

pub returns-in-Differenced : goal.returns-in-Differenced
unfolding outcome_of
returns-in-Differenced c =
    let a = c.args.a in
    put_is c.args.out.now (gradient_shown a.said a.next.n a.x a.g c.in-Differenced.is) (refl, refl)

pub returns-in-Refused : goal.returns-in-Refused
unfolding outcome_of
returns-in-Refused c =
    let a = c.args.a in
    put_is c.args.out.now (no_shown a.said a.next.n a.x a.g _ c.in-Refused.is) c.put_no.ensures
