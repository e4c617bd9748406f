use Rattle.std.proofs.Common.{◌≡◌, List, ℕ, [], ◌∷◌, ◌++◌, ap, ◌∙◌}
use Rattle.serde_json.specs.Written.{compact_text}
use Rattle.serde_json.proofs.FreeTexts.{text_of_value}
use Rattle.full_trace.specs.Data.{trace_data, trace_text}
use Rattle.full_trace.proofs.Texts.{trace_has_no_float}
use Rattle.full_trace.proofs.text.full_text.Goals as goal

pub returns : goal.returns
unfolding trace_text
returns c =
    let events = c.in_ok-trace.trace.events.items in
    let sent = c.in-Ok.ensures.events in
    let written : c.in-Ok.text.items ≡ compact_text (trace_data events) =
    text_of_value (trace_data events) sent.0 _ sent.1 sent.2 (trace_has_no_float events) in
    c.in_ok-push.ensures.items ∙ ap (λ (text : List ℕ). text ++ 10 ∷ []) written ∙ ap trace_text c.in_ok-trace.ensures
