-- A script and replies make one script.
-- Cited by `elaborated_scripts_are_unique`.
use Rattle.std.proofs.Common.{◌≡◌, ℕ, suc, ◌<◌, List, [], ◌∷◌, length, refl, sym, ap, subst, ◌∙◌, Some, arith}
use Rattle.std.specs.Prelude.{slice_get}
use Rattle.std.proofs.lemmas.Option.{same_Some, slice_get_within, slice_get-get_or}
use Rattle.task_base.specs.Plan.{Plan}
use Rattle.script_model.proofs.Laws.Faults.{ok_same}
use Rattle.task_reply.specs.declared.reply.Reply.{Reply}
use Rattle.task_reply.specs.Elaborated.{IsElaborated, IsElaboratedBy}

-- lists of one length with the same elements at their places are equal
same_lists : {A : Type 0} (xs ys : List A) → length xs ≡ length ys → ((k : ℕ) (x : A) → slice_get xs k ≡ Some x → slice_get ys k ≡ Some x) → xs ≡ ys
same_lists [] [] count same = refl
same_lists [] (y ∷ ys) count same = absurd (omega (arith, count))
same_lists (x ∷ xs) [] count same = absurd (omega (arith, count))
same_lists (x ∷ xs) (y ∷ ys) count same =
    let first : x ≡ y = sym (same_Some y x (same 0 x refl)) in
    let rest : xs ≡ ys = same_lists xs ys (omega (arith, count)) (λ k z is. same (suc k) z is) in
    cc

one_elaborated : (script one other : Plan) (replies : List Reply) → IsElaborated script replies one → IsElaborated script replies other → one ≡ other
one_elaborated script one other replies a b =
    let tasks : one.tasks ≡ other.tasks = same_lists one.tasks other.tasks (a.task_count ∙ sym b.task_count) (λ t steps is.
    let within : t < length script.tasks = omega (arith, slice_get_within one.tasks t steps is, a.task_count) in
    let own_is = slice_get-get_or script.tasks t [] within in
    b.steps_added t _ own_is ∙ sym (a.steps_added t _ own_is) ∙ is) in
    a.rest_stays ∙ ap (λ ts. record script { tasks = ts }) tasks ∙ sym b.rest_stays

pub one_script : (script : Plan) (bytes : List ℕ) (one other : Plan) → IsElaboratedBy script bytes one → IsElaboratedBy script bytes other → one ≡ other
one_script script bytes one other a b =
    let same : b.replies ≡ a.replies = ok_same {E = ℕ × ℕ} b.replies a.replies (sym b.said ∙ a.said) in
    one_elaborated script one other a.replies a.elaborated (subst (λ replies. IsElaborated script replies other) same b.elaborated)
