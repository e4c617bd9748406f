use Rattle.std.proofs.lemmas.Result.{on_ok_weaker}
use Rattle.full_trace.proofs.args.send_task.Goals as goal

pub returns : goal.returns
returns g c =
    on_ok_weaker c.end_map.result (λ ended. (
      _,
      c.in_ok-begin_map.ensures,
      (
        _,
        _,
        c.in_ok-key.ensures,
        c.in_ok-u64.ensures,
        (
          _,
          _,
          c.in_ok-key-2.ensures,
          c.in_ok-str.ensures,
          (
            _,
            _,
            c.in_ok-key-3.ensures,
            c.in_ok-str-2.ensures,
            (_, _, c.in_ok-key-4.ensures, c.in_ok-u64-2.ensures, ended),
          ),
        ),
      ),
    ))
    c.end_map.ensures
