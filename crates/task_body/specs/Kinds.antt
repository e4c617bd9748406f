-- What contracts see of a body of either kind.
use Rattle.task_body.specs.Bodies.{BodyView}
use Rattle.task_body.specs.declared.kinds.Body.{Body}
use Rattle.task_body.specs.declared.kinds.Body.TheVariants.{Script, Once}

-- all steps, and those still to do
abbrev pub view_of : {W : Type 0} → Body W → BodyView
view_of (Script body) = body
view_of (Once body) = body
