-- What a client has, as lines: EJSON lists whose first element says what the line is.
use Rattle.std.specs.Prelude.{ℕ, suc, List, [], ◌∷◌, ◌++◌, map, codes, decimal, Option, Some, None}
use Rattle.value_model.specs.Val.{Val, text, Entries}
use Rattle.ejson_codec.specs.Lines.{worded, doc_line, line_text}
use Rattle.ejson_value.specs.declared.key.Key.{Key}
use Rattle.program_steps.specs.Runs.{Outcome, done, failed}
use Rattle.client_model.specs.declared.subs.SubState.{SubState}
use Rattle.client_model.specs.declared.subs.SubState.TheVariants as state
use Rattle.client_model.specs.Client.{Sub, Subs, Call}
use Rattle.client_model.specs.Asking.{outcome_in}

abbrev pub line_texts : List Val → List (List ℕ)
line_texts vs = map line_text vs

-- the words for what became of a subscription
abbrev pub state_words : SubState → List Val
state_words state.Waiting = text (codes "waiting") ∷ []
state_words state.Ready = text (codes "ready") ∷ []
state_words state.Ended = text (codes "ended") ∷ []
state_words (state.Refused code) = text (codes "refused") ∷ text code ∷ []

abbrev pub sub_line : List ℕ × Sub → Val
sub_line sub = worded (codes "sub") (text sub.0 ∷ state_words sub.1.state)

-- and of a call
abbrev pub outcome_words : Option Outcome → List Val
outcome_words None = text (codes "waiting") ∷ []
outcome_words (Some (done None)) = text (codes "done") ∷ []
outcome_words (Some (done (Some v))) = text (codes "done") ∷ v ∷ []
outcome_words (Some (failed fault)) = text (codes "failed") ∷ text fault.code ∷ text fault.reason ∷ []

abbrev pub method_line : ℕ → Call → Val
method_line number call = worded (codes "method") (text (decimal number) ∷ outcome_words (outcome_in (Some call)))

-- numbered from the given number on
abbrev pub method_lines : ℕ → List Call → List Val
method_lines number [] = []
method_lines number (call ∷ calls) = method_line number call ∷ method_lines (suc number) calls

abbrev pub head_line : List ℕ → Val
head_line name = worded (codes "show") (text name ∷ [])

-- its name, its documents, its subscriptions and its calls
abbrev pub shown : List ℕ → List (Key × Entries) → Subs → List Call → List Val
shown name view subs calls = head_line name ∷ (map doc_line view ++ (map sub_line subs ++ method_lines 1 calls))
