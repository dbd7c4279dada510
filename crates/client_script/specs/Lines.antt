-- The line of a script that a value describes.
use Rattle.std.specs.Prelude.{ℕ, List, Option, Some, None, option_and_then, option_map, if◌then◌else◌, codes}
use Rattle.value_model.specs.Val.{Val, list, Vals}
use Rattle.value_model.specs.Size.{is_name}
use Rattle.line_parts.specs.Parts.{text_first, is_nil, text_alone, params_in}
use Rattle.client_script.specs.declared.line.Ask.{Ask}
use Rattle.client_script.specs.declared.line.Ask.TheVariants as ask
use Rattle.client_script.specs.declared.line.Line.{Line}
use Rattle.client_script.specs.declared.line.Line.TheVariants as line

-- `["sub",id,name]` and `["sub",id,name,parameters]`, after the word
abbrev pub sub_with : List ℕ → List ℕ → Vals → Option Ask
sub_with id name params = option_map (ask.Sub id name) (params_in params)

abbrev pub sub_in : Vals → Option Ask
sub_in vs = option_and_then (λ id. option_and_then (λ name. sub_with id.0 name.0 name.1) (text_first id.1)) (text_first vs)

-- `["call",method]` and `["call",method,parameters]`
abbrev pub call_in : Vals → Option Ask
call_in vs = option_and_then (λ method. option_map (ask.Call method.0) (params_in method.1)) (text_first vs)

-- what a word asks a client for with what follows it
abbrev pub asked_in : List ℕ → Vals → Option Ask
asked_in word vs =
    if is_name word (codes "sub") then sub_in vs
    else if is_name word (codes "unsub") then option_map ask.Unsub (text_alone vs)
    else if is_name word (codes "call") then call_in vs
    else None

-- the line of a word and what follows it
abbrev pub row_in : List ℕ → Vals → Option Line
row_in word vs =
    if is_name word (codes "wait") then (if is_nil vs then Some line.Wait else None)
    else if is_name word (codes "show") then (if is_nil vs then Some line.Show else None)
    else option_map line.Ask (asked_in word vs)

-- the line of a value
abbrev pub line_in : Val → Option Line
line_in (list vs) = option_and_then (λ first. row_in first.0 first.1) (text_first vs)
line_in _ = None
