-- The last entry of a past that is what is looked for, and where it stands.
-- Cited by `last_marked`.
use Rattle.std.proofs.Common.{◌≡◌, ℕ, ◌+◌, ◌<◌, List, [], ◌∷◌, ◌++◌, Option, None, ap, get_or, length, sym, take, ◌∙◌}
use Rattle.std.proofs.lemmas.List.{take_more}
use Rattle.task_base.specs.declared.entry.Entry.{Entry}
use Rattle.task_model.proofs.Growth.{fold_past-push}
use Rattle.log_context.specs.Seen.{last_marked, seen_after}
use Rattle.log_context.specs.declared.mark.Mark.{Mark}
use Rattle.log_context.specs.declared.seen.Seen.{Seen}

pub last_marked_push : (mark : Mark) (past : List Entry) (e : Entry) → last_marked mark (past ++ e ∷ []) ≡ seen_after mark past (last_marked mark past) e
unfolding last_marked
last_marked_push mark past e = fold_past-push (seen_after mark) None past e

-- what was seen last, one entry further
pub seen_more : (mark : Mark) (past : List Entry) (i : ℕ) (d : Entry) (old new : Option Seen) → i < length past → old ≡ last_marked mark (take i past)
    → new ≡ seen_after mark (take i past) old (get_or past i d) → new ≡ last_marked mark (take (i + 1) past)
seen_more mark past i d old new below is goes = rw (take_more past i d below)
    (goes ∙ ap (λ o. seen_after mark (take i past) o (get_or past i d)) is ∙ sym (last_marked_push mark (take i past) (get_or past i d)))
