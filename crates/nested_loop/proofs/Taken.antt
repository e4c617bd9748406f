-- What a sink took of the text of a log, line after line.
-- Cited by `write_nest`.
use Rattle.std.proofs.Common.{◌≡◌, ℕ, ◌+◌, ◌<◌, ◌≤◌, min, List, [], ◌++◌, length, get_or, take, drop, Option}
use Rattle.std.proofs.Common.{refl, sym, ◌∙◌, arith, add-one, append_assoc, append-nil, drop-cons}
use Rattle.std.proofs.Math.Seq.{take-append-add}
use Rattle.std.proofs.lemmas.List.{take_min, take-append-le, drop_all}
use Rattle.env_io.specs.Bytes.{Gains}
use Rattle.env_io.proofs.Bytes.{Gains-trans}
use Rattle.nested_loop.specs.declared.event.Event.{Event}
use Rattle.nested_loop.specs.NestText.{event_line, event_lines, nest_text}

-- the sink took the lines before this place: with those from there on, they are the text
pub record IsSent (before after : Option (List ℕ)) (log : List Event) (place : ℕ) : Type 0 where
  pub sent : List ℕ
  pub taken : Gains before sent after
  pub rest : sent ++ event_lines place (drop place log) ≡ nest_text log

-- the line of a place, and those behind it
next_line : (log : List Event) (place : ℕ) (d : Event) → place < length log
    → event_lines place (drop place log) ≡ event_line place (get_or log place d) ++ event_lines (place + 1) (drop (place + 1) log)
unfolding event_lines
next_line log place d within = rw (drop-cons log place d, add-one) refl

-- the line of a place was taken behind those before it
pub sent_more : (a b c : Option (List ℕ)) (log : List Event) (place : ℕ) (d : Event) (line : List ℕ) → place < length log
    → line ≡ event_line place (get_or log place d) → IsSent a b log place → Gains b line c → IsSent a c log (place + 1)
sent_more a b c log place d line within is sent next = record {
  sent = sent.sent ++ line;
  taken = Gains-trans a b c sent.sent line sent.taken next;
  rest = rw (
    is,
    append_assoc sent.sent (event_line place (get_or log place d)) (event_lines (place + 1) (drop (place + 1) log)),
    ← next_line log place d within,
  ) sent.rest;
}

-- a front of the middle of a text is the end of a front of the text
front_of_text : (front middle rest : List ℕ) (m : ℕ) → front ++ take m middle ≡ take (length front + min m (length middle)) (front ++ (middle ++ rest))
front_of_text front middle rest m =
    let within : min m (length middle) ≤ length middle = omega arith in
    rw (take-append-add, take-append-le, take_min) refl

-- a front of the line of a place was taken behind those before it
pub sent_cut : (a b c : Option (List ℕ)) (log : List Event) (place : ℕ) (d : Event) (line : List ℕ) → place < length log
    → line ≡ event_line place (get_or log place d) → IsSent a b log place → (m : ℕ) × Gains b (take m line) c → (n : ℕ) × Gains a (take n (nest_text log)) c
sent_cut a b c log place d line within is sent next =
    let front : sent.sent ++ take next.0 line ≡ take (length sent.sent + min next.0 (length line)) (nest_text log) =
    rw (← sent.rest, next_line log place d within, ← is) (front_of_text sent.sent line (event_lines (place + 1) (drop (place + 1) log)) next.0) in
    (length sent.sent + min next.0 (length line), rw (← front) (Gains-trans a b c sent.sent (take next.0 line) sent.taken next.1))

-- where no line is left, the whole text was taken
pub sent_all : (a b : Option (List ℕ)) (log : List Event) (place : ℕ) → length log ≤ place → IsSent a b log place → Gains a (nest_text log) b
unfolding event_lines
sent_all a b log place end sent =
    let none : drop place log ≡ [] = drop_all place log end in
    let whole : sent.sent ≡ nest_text log = sym (append-nil sent.sent) ∙ (rw none at sent.rest) in
    rw (← whole) sent.taken
