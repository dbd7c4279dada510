-- The parts of lines: what stands first in a list of values, and what stands there alone.
use Rattle.std.specs.Prelude.{ℕ, List, [], Bool, true, false, Option, Some, None, option_and_then, option_map, nat_le, ◌&&◌, if◌then◌else◌}
use Rattle.std.specs.List.{list_all}
use Rattle.value_model.specs.Val.{Val, text, list, Vals, list_of, no_vals, val}
use Rattle.value_model.specs.Depth.{depth}
use Rattle.ejson_codec.specs.Reading.{max_levels}

-- the text that stands first, and what follows it
abbrev pub text_first : Vals → Option (List ℕ × Vals)
text_first (val (text t) vs) = Some (t, vs)
text_first _ = None

abbrev pub is_nil : Vals → Bool
is_nil no_vals = true
is_nil (val v vs) = false

-- the text that stands alone
abbrev pub text_alone : Vals → Option (List ℕ)
text_alone vs = option_and_then (λ first. if is_nil first.1 then Some first.0 else None) (text_first vs)

-- two texts that stand alone
abbrev pub texts_alone : Vals → Option (List ℕ × List ℕ)
texts_alone vs = option_and_then (λ first. option_map (λ second. (first.0, second)) (text_alone first.1)) (text_first vs)

-- each value has at most 32 levels
abbrev pub have_few_levels : Vals → Bool
have_few_levels vs = list_all (λ v. nat_le (depth v) max_levels) (list_of vs)

-- the parameters: none, or those of a list that stands alone, each of at most 32 levels
abbrev pub params_in : Vals → Option (List Val)
params_in no_vals = Some []
params_in (val (list vs) rest) = if is_nil rest && have_few_levels vs then Some (list_of vs) else None
params_in _ = None
