-- What is printed, as lines.
use Rattle.std.specs.Prelude.{ℕ, List, Option, Some}
use Rattle.value_model.specs.Val.{Val}
use Rattle.world_model.specs.declared.events.Answer.{Answer}
use Rattle.world_model.specs.declared.events.Answer.TheVariants as answer
use Rattle.world_model.specs.Lines.{answer_values, broken_values, refusal_values, texts_of}
use Rattle.world_core.specs.declared.printed.What.{What}
use Rattle.world_core.specs.declared.printed.What.TheVariants as what

-- an act is answered so; where it is made, it may be that the client refuses a text, for this reason
abbrev pub told_values : Answer → Option ℕ → List Val
told_values answer.Done refusal = broken_values refusal
told_values o refusal = answer_values o

abbrev pub texts_in : What → List (List ℕ)
texts_in (what.Answer o) = texts_of (answer_values o)
texts_in (what.Broken reason) = texts_of (broken_values (Some reason))
texts_in (what.Refused code) = texts_of (refusal_values (Some code))
texts_in (what.Lines lines) = lines
