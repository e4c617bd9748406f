-- The events of a log, one entry more at a time.
-- Cited by `trace_of`.
use Rattle.std.proofs.Common.{◌≡◌, ◌<◌, ◌+◌, ℕ, suc, add-zero, zero-add, List, [], ◌∷◌, ◌++◌, length, take, get_or, refl, sym, ap, ◌∙◌}
use Rattle.std.proofs.Common.{append_assoc, append-nil, arith}
use Rattle.std.specs.Prelude.{fold}
use Rattle.std.proofs.lemmas.Grind.{fold-append}
use Rattle.std.proofs.lemmas.List.{take_more, length-take-le}
use Rattle.task_base.specs.Plan.{Plan}
use Rattle.task_base.specs.declared.entry.Entry.{Entry}
use Rattle.full_trace.specs.declared.event.Event.{Event}
use Rattle.full_trace.specs.Shown.{Standing, course_after, declared, events_at, events_from, names_of, trace_of}

-- what a log comes to that begins here
unfoldable pub course_of : Standing → List Entry → Standing
course_of c log = fold (λ now e. course_after now e.kind) c log

course_of-push : (c : Standing) (past : List Entry) (e : Entry) → course_of c (past ++ e ∷ []) ≡ course_after (course_of c past) e.kind
unfolding course_of
course_of-push c past e = fold-append (λ now e. course_after now e.kind) c past (e ∷ [])

-- one more entry adds its events behind those of the entries before it
events_from-push : (script : Plan) (c : Standing) (place : ℕ) (xs : List Entry) (e : Entry) → events_from script c place (xs ++ e ∷ [])
    ≡ events_from script c place xs ++ events_at script (course_after (course_of c xs) e.kind) (place + length xs) e
unfolding course_of
events_from-push script c place [] e =
    append-nil (events_at script (course_after c e.kind) place e) ∙ ap (λ p. events_at script (course_after c e.kind) p e) (sym (add-zero place))
events_from-push script c place (x ∷ xs) e =
    let later = course_after c x.kind in
    let last = course_after (course_of later xs) e.kind in
    let shift : (place + 1) + length xs ≡ place + suc (length xs) = omega arith in
    ap (λ events. events_at script later place x ++ events)
    (events_from-push script later (place + 1) xs e ∙ ap (λ p. events_from script later (place + 1) xs ++ events_at script last p e) shift)
    ∙ sym (append_assoc (events_at script later place x) (events_from script later (place + 1) xs) (events_at script last (place + suc (length xs)) e))

trace_of-push : (script : Plan) (past : List Entry) (e : Entry)
    → trace_of script (past ++ e ∷ []) ≡ trace_of script past ++ events_at script (course_after (course_of (declared script) past) e.kind) (length past) e
unfolding trace_of
trace_of-push script past e =
    let last = course_after (course_of (declared script) past) e.kind in
    let front = events_from script (declared script) 0 past in
    ap (λ events. names_of (script.workers + 1) ++ events)
    (events_from-push script (declared script) 0 past e ∙ ap (λ p. front ++ events_at script last p e) (zero-add (length past)))
    ∙ sym (append_assoc (names_of (script.workers + 1)) front (events_at script last (length past) e))

-- the course goes on by the entry at a place
pub course_of-more : (c course new : Standing) (log : List Entry) (i : ℕ) (d : Entry) → new ≡ course_after course (get_or log i d).kind
    → course ≡ course_of c (take i log) → i < length log → new ≡ course_of c (take (i + 1) log)
course_of-more c course new log i d after so_far less = rw (take_more log i d less, course_of-push, after, so_far) refl

-- the events go on by those of the entry at a place
pub trace_of-more : (script : Plan) (course : Standing) (events new : List Event) (log : List Entry) (i : ℕ) (d : Entry)
    → new ≡ events ++ events_at script course i (get_or log i d) → events ≡ trace_of script (take i log)
    → course ≡ course_of (declared script) (take (i + 1) log) → i < length log → new ≡ trace_of script (take (i + 1) log)
trace_of-more script course events new log i d after so_far gone_on less =
    let short : length (take i log) ≡ i = length-take-le i log (omega arith) in
    rw (after, gone_on, take_more log i d less, trace_of-push, course_of-push, short, so_far) refl
