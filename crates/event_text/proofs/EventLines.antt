-- Events whose lines begin a text, and texts of no events.
-- Cited by `read_events`.
use Rattle.std.proofs.Common.{◌≡◌, ◌≢◌, ◌<◌, ◌==◌, ℕ, true, List, [], ◌∷◌, ◌++◌, All, length, refl, sym, ap, ◌∙◌}
use Rattle.std.proofs.Common.{arith, append_assoc, append-nil, length-append}
use Rattle.std.proofs.lemmas.Bool.{eqb-true}
use Rattle.std.proofs.lemmas.List.Elements.{All-head, All-tail}
use Rattle.log_model.proofs.Laws.Pieces.{same_until}
use Rattle.run_log.specs.TextLines.{text_lines}
use Rattle.run_log.proofs.LinesOfText.{text_lines-fed}
use Rattle.order_model.specs.declared.event.Event.{Event}
use Rattle.event_text.specs.EventText.{EventFits, event_line, events_text}
use Rattle.event_text.specs.Reading.{BeginsWithNoEvent, IsBadLine, IsEventLine}
use Rattle.event_text.proofs.EventWords.{joined, joined_lacks_feed, same_event}

-- a line and what comes after it are the line's words, a line feed, and the rest
line_then : (e : Event) (rest : List ℕ) → event_line e ++ rest ≡ joined e ++ 10 ∷ rest
line_then e rest = append_assoc (joined e) (10 ∷ []) rest

-- the text of an event more
pub events_text-push : (events : List Event) (e : Event) → events_text (events ++ e ∷ []) ≡ events_text events ++ event_line e
events_text-push [] e = append-nil (event_line e)
events_text-push (first ∷ events) e =
    ap (λ text. event_line first ++ text) (events_text-push events e) ∙ sym (append_assoc (event_line first) (events_text events) (event_line e))

-- what events are read, and what is left, with one event more
pub one_more : (text : List ℕ) (events : List Event) (rest line after : List ℕ) (e : Event) → text ≡ events_text events ++ rest → rest ≡ line ++ after
    → IsEventLine line e → text ≡ events_text (events ++ e ∷ []) ++ after
one_more text events rest line after e read cut h =
    read ∙ ap (λ left. events_text events ++ left) (cut ∙ ap (λ front. front ++ after) h.same)
    ∙ sym (append_assoc (events_text events) (event_line e) after) ∙ ap (λ front. front ++ after) (sym (events_text-push events e))

-- the line of an event is not empty
pub line_is_some : (line : List ℕ) (e : Event) → IsEventLine line e → 0 < length line
line_is_some line e h = rw (h.same, length-append) (omega arith)

-- a text in whose first line no event stands begins with the line of none
pub no_line_begins : (text line after : List ℕ) → text_lines text ≡ line ∷ text_lines after → ((e : Event) → ¬ IsEventLine line e) → BeginsWithNoEvent text
no_line_begins text line after first none front rest same e h =
    let begun : text ≡ joined e ++ 10 ∷ rest = same ∙ ap (λ start. start ++ rest) h.same ∙ line_then e rest in
    let lines : line ∷ text_lines after ≡ (joined e ++ 10 ∷ []) ∷ text_lines rest =
    sym first ∙ ap text_lines begun ∙ text_lines-fed (joined e) rest (joined_lacks_feed e h.fits) in
    let here : line ≡ joined e ++ 10 ∷ [] = cc in
    none e (record { same = here; fits = h.fits })

-- what comes after the lines of the first events is the rest, where it is something that begins with no further one: so it is no text
no_text_from : (a b : List Event) (rest : List ℕ) → All EventFits a → All EventFits b → rest ≢ [] → BeginsWithNoEvent rest
    → events_text b ≢ events_text a ++ rest
no_text_from [] [] rest p q some none e = some (sym e)
no_text_from [] (y ∷ b) rest p q some none e =
    none (event_line y) (events_text b) (sym e) y (record { same = refl; fits = All-head EventFits y b q })
no_text_from (x ∷ a) [] rest p q some none e =
    let long : 0 ≡ length (joined x ++ 10 ∷ (events_text a ++ rest)) =
    ap length (e ∙ append_assoc (event_line x) (events_text a) rest ∙ line_then x (events_text a ++ rest)) in
    absurd (omega (arith, long, length-append (joined x) (10 ∷ (events_text a ++ rest))))
no_text_from (x ∷ a) (y ∷ b) rest p q some none e =
    let begun : joined y ++ 10 ∷ events_text b ≡ joined x ++ 10 ∷ (events_text a ++ rest) =
    sym (line_then y (events_text b)) ∙ e ∙ append_assoc (event_line x) (events_text a) rest ∙ line_then x (events_text a ++ rest) in
    let cut = same_until 10 (joined y) (joined x) (events_text b) (events_text a ++ rest) (joined_lacks_feed y (All-head EventFits y b q))
    (joined_lacks_feed x (All-head EventFits x a p)) begun in
    no_text_from a b rest (All-tail EventFits x a p) (All-tail EventFits y b q) some none cut.1

-- the text of events is bad nowhere
pub bad_is_no_text : (text : List ℕ) (line : ℕ) → IsBadLine text line → (events : List Event) → All EventFits events → events_text events ≢ text
bad_is_no_text text line bad events fits same =
    no_text_from bad.events events bad.rest bad.fit fits bad.some bad.no_further (same ∙ bad.same)

-- where nothing is left, the text is that of the events that are read
pub whole_text : (text : List ℕ) (events : List Event) (rest : List ℕ) → text ≡ events_text events ++ rest → length rest == 0 ≡ true
    → text ≡ events_text events
whole_text text events [] same none = same ∙ append-nil (events_text events)
whole_text text events (byte ∷ rest) same none = absurd (omega (arith, eqb-true (length (byte ∷ rest)) 0 none))

-- the text of no events is empty, and that of some is not
text_is_some : (e : Event) (events : List Event) → events_text (e ∷ events) ≢ []
text_is_some e events same =
    let long : length (joined e ++ 10 ∷ events_text events) ≡ 0 = ap length (sym (line_then e (events_text events)) ∙ same) in
    absurd (omega (arith, long, length-append (joined e) (10 ∷ events_text events)))

-- the text tells the events
pub same_events : (a b : List Event) → All EventFits a → All EventFits b → events_text a ≡ events_text b → a ≡ b
same_events [] [] p q e = refl
same_events [] (y ∷ b) p q e = absurd (text_is_some y b (sym e))
same_events (x ∷ a) [] p q e = absurd (text_is_some x a e)
same_events (x ∷ a) (y ∷ b) p q e =
    let fits : EventFits x = All-head EventFits x a p in
    let fits' : EventFits y = All-head EventFits y b q in
    let cut = same_until 10 (joined x) (joined y) (events_text a) (events_text b) (joined_lacks_feed x fits) (joined_lacks_feed y fits')
    (sym (line_then x (events_text a)) ∙ e ∙ line_then y (events_text b)) in
    let first : x ≡ y = same_event x y fits fits' cut.0 in
    let others : a ≡ b = same_events a b (All-tail EventFits x a p) (All-tail EventFits y b q) cut.1 in
    cc
