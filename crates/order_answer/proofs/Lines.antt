-- Lines that are added one after the other.
-- Cited by `add_each`, `add_lines`.
use Rattle.std.proofs.Common.{◌≡◌, ℕ, ◌+◌, ◌<◌, List, [], ◌∷◌, ◌++◌, ap, append-nil, append_assoc, get_or, length, refl, sym, take, ◌∙◌}
use Rattle.std.proofs.lemmas.List.{take_more}
use Rattle.task_base.specs.Plan.{Plan}
use Rattle.task_base.specs.declared.entry.Entry.{Entry}
use Rattle.log_model.specs.LogText.{line_of, text_from}
use Rattle.log_model.proofs.Laws.LogTexts.{text_from-take_more}
use Rattle.order_model.specs.declared.event.Event.{Event}
use Rattle.order_explain.specs.Stuck.{IsStuck}
use Rattle.order_explain.specs.declared.stuck.Stuck.{Stuck}
use Rattle.order_text.specs.Plain.{stuck_text}
use Rattle.order_answer.specs.Said.{AreAgainst}

-- what is added after what was added
pub added_more : (now initial lines more : List ℕ) → now ≡ initial ++ lines → now ++ more ≡ initial ++ (lines ++ more)
added_more now initial lines more is = ap (λ (text : List ℕ). text ++ more) is ∙ append_assoc initial lines more

-- the lines of the last event
against_last : (script : Plan) (events rest next : List Event) (e : Event) (stuck : Stuck) (lines : List ℕ) → AreAgainst script events rest next lines
    → IsStuck script events rest e stuck → AreAgainst script events rest (next ++ e ∷ []) (lines ++ stuck_text (length events) e stuck)
against_last script events rest [] e stuck lines none is =
    (stuck, [], is, refl, rw none (sym (append-nil (stuck_text (length events) e stuck))))
against_last script events rest (x ∷ next) e stuck lines (first, others, of, more, same) is = (
  first,
  others ++ stuck_text (length events) e stuck,
  of,
  against_last script events rest next e stuck others more is,
  rw same (append_assoc (stuck_text (length events) x first) others (stuck_text (length events) e stuck)),
)

-- those of one event more
pub against_more : (script : Plan) (events rest next : List Event) (i : ℕ) (d : Event) (stuck : Stuck) (lines : List ℕ) → i < length next
    → AreAgainst script events rest (take i next) lines → IsStuck script events rest (get_or next i d) stuck
    → AreAgainst script events rest (take (i + 1) next) (lines ++ stuck_text (length events) (get_or next i d) stuck)
against_more script events rest next i d stuck lines below known is =
    rw (take_more next i d below) (against_last script events rest (take i next) (get_or next i d) stuck lines known is)

-- the line of one entry more
pub line_more : (now initial line : List ℕ) (log : List Entry) (i : ℕ) (d : Entry) → i < length log → now ≡ initial ++ text_from 0 (take i log)
    → line ≡ line_of i (get_or log i d) → now ++ line ≡ initial ++ text_from 0 (take (i + 1) log)
line_more now initial line log i d below is same =
    rw (same, text_from-take_more log i d below) (added_more now initial (text_from 0 (take i log)) (line_of i (get_or log i d)) is)
