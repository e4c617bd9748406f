use Rattle.pool_core.proofs.Calls.Shutdown.{count_is, stands_at_done}
use Rattle.std.proofs.Common.{Err, Ok, Result, refl, subst, sym, ◌∙◌, ◌≡◌}
use Rattle.std.specs.Prelude.{IfErr, IsOk, OnOk}
use Rattle.pool_core.proofs.pool.Pool.try_done.Goals as goal

-- what holds where there is a value, from what holds there
given_ok : {T E P Q : Type 0} (r : Result T E) → (IsOk r → P → Q) → OnOk r P → OnOk r Q
given_ok (Ok x) step p = step refl p
given_ok (Err x) step p = p

pub returns-clause-ok : goal.returns-clause-ok
returns-clause-ok c = λ script past can.
    let e = count_is script past c.args.self.now can.stands in
    (λ ok. sym e ∙ c.try_done.ensures.ok.0 ok, λ none. c.try_done.ensures.ok.1 (e ∙ none))

pub returns-clause-blocked : goal.returns-clause-blocked
returns-clause-blocked c = λ script past can.
    subst (λ n. IfErr c.try_done.result (λ blocked. blocked.count ≡ n)) (count_is script past c.args.self.now can.stands) c.try_done.ensures.blocked

pub returns-clause-done : goal.returns-clause-done
returns-clause-done c = λ script past seat can. given_ok c.try_done.result
    (λ ok is. stands_at_done script past c.args.self.now seat c.try_done.new.self can
    (sym (count_is script past c.args.self.now can.stands) ∙ c.try_done.ensures.ok.0 ok) is) c.try_done.ensures.done
