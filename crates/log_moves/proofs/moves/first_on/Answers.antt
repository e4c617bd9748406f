use Rattle.std.proofs.Common.{◌≡◌, ℕ, ◌+◌, ◌<◌, ◌∷◌, ◌++◌, ◌∙◌, Bool, true, false, List, [], ap, append_assoc, arith, get_or, length, sym, take}
use Rattle.std.proofs.lemmas.Grind.{common_steps}
use Rattle.std.proofs.lemmas.List.{take_more}
use Rattle.task_base.specs.Plan.{Plan}
use Rattle.task_base.specs.declared.entry.Entry.{Entry}
use Rattle.hist_model.specs.Legal.{is_legal}
use Rattle.log_moves.specs.Moves.{fits_after}
use Rattle.log_moves.proofs.Nearest.{first_here, none_more}
use Rattle.log_moves.proofs.moves.first_on.Goals as goal

-- one entry more was gone past
one_more : (past rest : List Entry) (n : ℕ) (d : Entry) → n < length rest → past ++ take (n + 1) rest ≡ (past ++ take n rest) ++ get_or rest n d ∷ []
one_more past rest n d below = rw (take_more rest n d below) (sym (append_assoc past (take n rest) (get_or rest n d ∷ [])))

-- what was asked of the list that is kept is asked of those entries
as_kept : (script : Plan) (past rest : List Entry) (e : Entry) (n : ℕ) (log : List Entry) (answer : Bool) → log ≡ past ++ take (n + 1) rest
    → answer ≡ is_legal script (log ++ e ∷ []) → fits_after script past e rest n ≡ answer
as_kept script past rest e n log answer same asked = sym (asked ∙ ap (λ (l : List Entry). is_legal script (l ++ e ∷ [])) same)

pub returns-then-branch : goal.returns-then-branch
returns-then-branch c =
    let test = fits_after c.args.script.now c.args.past.now c.args.entry c.args.rest.now in
    let kept : c.push.new.self.items ≡ c.args.past.now ++ take (c.loop-n.n + 1) c.args.rest.now = grind (arith, common_steps) in
    sym (first_here test c.loop-n.n _ (omega (arith, c.loop-n-test.true, c.min-n-end.ensures)) c.loop-n.invariant.none_yet
    (as_kept c.args.script.now c.args.past.now c.args.rest.now c.args.entry c.loop-n.n c.deref.result.now true (c.deref.ensures.value ∙ kept) (sym c.if-branch.true ∙ c.in_ok-is_legal_with.ensures)))

pub loop-n-preserved : goal.loop-n-preserved
loop-n-preserved c =
    let test = fits_after c.args.script.now c.args.past.now c.args.entry c.args.rest.now in
    let kept : c.push.new.self.items ≡ c.args.past.now ++ take (c.loop-n.n + 1) c.args.rest.now = grind (arith, common_steps) in
    record {
      so_far = kept;
      none_yet = none_more test c.loop-n.n c.loop-n.invariant.none_yet
          (as_kept c.args.script.now c.args.past.now c.args.rest.now c.args.entry c.loop-n.n c.deref.result.now false (c.deref.ensures.value ∙ kept) (sym c.if-branch.false ∙ c.in_ok-is_legal_with.ensures));
    }
