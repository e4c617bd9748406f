use Rattle.std.proofs.Common.{◌≡◌, sym, ◌∙◌, refl, drop}
use Rattle.script_model.specs.Reasons.{◌&◌}
use Rattle.value_words.specs.Words.{priority_named, behaviour_named}
use Rattle.script_model.specs.Places.{id_at, number_at, name_at, steps_read}
use Rattle.script_lines.specs.Said.{job_said}
use Rattle.script_lines.proofs.LaterPlaces.{job_line}
use Rattle.script_lines.proofs.stepped.job.Goals as goal

pub returns : goal.returns
unfolding job_said
returns c =
    let w = c.args.words in
    let places : (id_at w 0 & name_at priority_named w 1 & name_at behaviour_named w 2 & number_at 0 65536 w 3 & number_at 1 64 w 4 & steps_read (drop 5 w))
    ≡ c.both-places.result = sym (rw (
      c.both-places.ensures,
      c.both-2.ensures,
      c.both.ensures,
      c.in_ok-work.ensures,
      c.behaviour-behaviour.ensures.value,
      c.priority-priority.ensures.value,
      c.id-number.ensures.value,
      c.behaviour-behaviour.ensures.rest,
      c.priority-priority.ensures.rest,
      c.id-number.ensures.rest,
    ) (job_line w)) in
    rw (places ∙ c.in_ok-number.was, c.job_of-job.ensures) refl
