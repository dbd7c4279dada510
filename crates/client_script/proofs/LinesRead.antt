-- Lines that were read so far.
use Rattle.std.specs.Prelude.{◌≡◌, ℕ, suc, ◌<◌, ◌+◌, ◌≤◌, length, get_or, take, slice_get, List, [], ◌∷◌, ◌++◌, map, Some, None, option_map}
use Rattle.std.proofs.Common.{ap, sym, subst, ◌∙◌, add-one}
use Rattle.std.proofs.Math.Seq.{take-suc}
use Rattle.std.proofs.lemmas.List.{map-append, take-map, take_all}
use Rattle.std.proofs.lemmas.Option.{slice_get-map, slice_get-get_or}
use Rattle.value_model.specs.Val.{Val}
use Rattle.ejson_value.specs.View.{view, views}
use Rattle.ejson_value.specs.declared.value.Value.{Value}
use Rattle.client_script.specs.declared.line.Line.{Line}
use Rattle.client_script.specs.Lines.{line_in}
use Rattle.client_script.specs.Scripts.{AreLines, IsFirstBad}

-- the line of the next value stands behind those before it
pub one_more : (values : List Value) (i : ℕ) (value : Value) (lines after : List Line) (line : Line) → i < length values → value ≡ get_or values i value
    → map line_in (views (take i values)) ≡ map Some lines → Some line ≡ line_in (view value) → after ≡ lines ++ line ∷ [] → map line_in (views (take (suc i) values)) ≡ map Some after
one_more values i value lines after line within is so_far found pushed =
    ap (λ vs. map line_in (views vs)) (take-suc values i value within)
    ∙ ap (map line_in) (map-append view (take i values) (get_or values i value ∷ []))
    ∙ map-append line_in (views (take i values)) (view (get_or values i value) ∷ [])
    ∙ ap (λ ls. ls ++ line_in (view (get_or values i value)) ∷ []) so_far
    ∙ ap (λ v. map Some lines ++ line_in (view v) ∷ []) (sym is)
    ∙ ap (λ l. map Some lines ++ l ∷ []) (sym found)
    ∙ sym (map-append Some lines (line ∷ []))
    ∙ ap (map Some) (sym pushed)

-- the value behind the lines so far is the first one that describes no line
pub first_bad : (values : List Value) (all : List Val) (i number : ℕ) (value : Value) (lines : List Line) → i < length values → value ≡ get_or values i value → length lines ≡ i
    → map line_in (views (take i values)) ≡ map Some lines → None ≡ line_in (view value) → number ≡ length lines + 1 → views values ≡ all → IsFirstBad all number
first_bad values all i number value lines within is count so_far bad counted are = subst (λ vs. IsFirstBad vs number) are (record {
  before = lines;
  counted = counted ∙ add-one (length lines);
  lines = ap (λ n. map line_in (take n (views values))) count ∙ ap (map line_in) (take-map view i values) ∙ so_far;
  bad = ap (λ n. option_map line_in (slice_get (views values) n)) count ∙ ap (option_map line_in) (slice_get-map view values i)
      ∙ ap (λ v. option_map line_in (option_map view v)) (slice_get-get_or values i value within ∙ ap Some (sym is)) ∙ ap Some (sym bad);
})

pub all_read : (values : List Value) (all : List Val) (i : ℕ) (lines : List Line) → length values ≤ i → views values ≡ all → map line_in (views (take i values)) ≡ map Some lines → AreLines all lines
all_read values all i lines past are so_far = ap (map line_in) (sym are) ∙ ap (λ vs. map line_in (views vs)) (sym (take_all i values past)) ∙ so_far
