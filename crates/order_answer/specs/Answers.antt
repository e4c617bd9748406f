-- What is answered to the text of events (this project's own rule).
use Rattle.std.specs.Prelude.{◌≡◌, ◌≤◌, ◌⊎◌, ℕ, Bool, true, List, [], codes, length}
use Rattle.task_base.specs.Plan.{Plan}
use Rattle.task_base.specs.declared.limits.TheConstants.{MOST_BYTES, MOST_EVENTS}
use Rattle.event_text.specs.Mistakes.{are_right}
use Rattle.order_model.specs.declared.event.Event.{Event}
use Rattle.order_model.specs.Orders.{IsBeginning, IsOrder, entries_of}
use Rattle.order_model.specs.declared.plan_kind.PlanKind.{PlanKind}
use Rattle.order_model.specs.declared.plan_kind.PlanKind.TheVariants.{Closed, Open}
use Rattle.order_search.specs.Arranged.{IsWithout}
use Rattle.order_answer.specs.declared.answer.Answer.{Answer}
use Rattle.order_answer.specs.declared.answer.Answer.TheVariants.{Order, NoOrder, GaveUp, Bad}
use Rattle.order_answer.specs.Bad.{IsBad, IsTextOf}
use Rattle.order_answer.specs.Said.{IsAgainst, found_text}

-- there is no order of the events, and the longest beginning of one is said, and what stands against more
pub record HasNone (script : Plan) (prefix : Bool) (seen : List Event) (said : List ℕ) : Type 0 where
  pub events : List Event
  pub rest : List Event
  pub without : IsWithout script prefix seen events rest
  pub lines : List ℕ
  pub against : IsAgainst script events rest lines
  pub said_is : said ≡ found_text (codes "no order\n") events (length seen) lines

-- none was found, and a beginning of one is said, and what stands against more
pub record HasBeginning (script : Plan) (seen : List Event) (said : List ℕ) : Type 0 where
  pub events : List Event
  pub rest : List Event
  pub begins : IsBeginning script seen events rest
  pub lines : List ℕ
  pub against : IsAgainst script events rest lines
  pub said_is : said ≡ found_text (codes "gave up\n") events (length seen) lines

-- the answer is the log of an order of the events, or says that there is none, or that none was found
abbrev pub IsAnswerTo : Plan → Bool → List Event → Answer → Type 0
IsAnswerTo script prefix seen (Order log) = (events : List Event) × IsOrder script prefix seen events × (log.items ≡ entries_of events)
IsAnswerTo script prefix seen (NoOrder said) = HasNone script prefix seen said.items
IsAnswerTo script prefix seen (GaveUp said) = HasBeginning script seen said.items
IsAnswerTo script prefix seen (Bad bad) = ⊥

-- the text is that of events each of which is right after those before it, and this is answered to them
pub record IsAnswerOf (script : Plan) (prefix : Bool) (text : List ℕ) (answer : Answer) : Type 0 where
  pub seen : List Event
  pub of : IsTextOf text seen
  pub right : are_right script.workers [] seen ≡ true
  pub is : IsAnswerTo script prefix seen answer

-- the answer is why the text is bad
abbrev pub IsRefusalOf : Plan → List ℕ → Answer → Type 0
IsRefusalOf script text (Bad bad) = IsBad script text bad
IsRefusalOf script text answer = ⊥

-- how many entries a log in the answer has at most: as many as a run may have, or of an open plan as many as a text may have bytes
abbrev pub most_entries : PlanKind → ℕ
most_entries Closed = MOST_EVENTS
most_entries Open = MOST_BYTES

-- a log in the answer has no more
abbrev pub HasFew : PlanKind → Answer → Type 0
HasFew kind (Order log) = length log.items ≤ most_entries kind
HasFew kind answer = Unit {0}

-- one of the two
abbrev pub IsAnswer : Plan → Bool → List ℕ → Answer → Type 0
IsAnswer script prefix text answer = IsAnswerOf script prefix text answer ⊎ IsRefusalOf script text answer
