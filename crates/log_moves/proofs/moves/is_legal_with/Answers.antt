use Rattle.std.proofs.Common.{◌≡◌, ◌∷◌, ◌++◌, ◌∙◌, [], List, ap}
use Rattle.std.specs.Prelude.{is_none}
use Rattle.task_base.specs.declared.entry.Entry.{Entry}
use Rattle.hist_model.specs.Legal.{is_legal}
use Rattle.hist_model.proofs.Laws.Legal.{first_illegal_none}
use Rattle.log_moves.proofs.moves.is_legal_with.Goals as goal

pub returns : goal.returns
returns c =
    let front = c.args.front.now in
    let end : List Entry = c.args.entry ∷ [] in
    let with_front = c.in_ok-extend_from_slice.ensures.items ∙ ap (λ (l : List Entry). l ++ front) c.new-log.ensures.items in
    let same : c.deref.result.now ≡ front ++ end = c.deref.ensures.value ∙ c.in_ok-push.ensures.items ∙ ap (λ (l : List Entry). l ++ end) with_front in
    c.is_nowhere.ensures ∙ ap is_none c.follow_all-stop.ensures.place ∙ first_illegal_none c.args.script.now c.deref.result.now
    ∙ ap (is_legal c.args.script.now) same
