-- The turns of the loops that write lists and documents token by token.
use Rattle.std.proofs.Common.{◌≡◌, ℕ, List, [], ◌∷◌, ◌++◌, ap, ◌∙◌, append_assoc}
use Rattle.json.specs.Token.{Token, key}
use Rattle.value_model.specs.Val.{vals_of, fields_of}
use Rattle.ejson_value.specs.declared.value.Value.{Value}
use Rattle.ejson_value.specs.View.{view, views, entries}
use Rattle.ejson_codec.specs.Tokens.{tree_tokens, elements_tokens, members_tokens}
use Rattle.ejson_codec.specs.Written.{written, items_written, members_written}

abbrev pub rest_of_items : List Value → List Token
rest_of_items vs = elements_tokens (items_written (vals_of (views vs)))

abbrev pub rest_of_fields : List (List ℕ × Value) → List Token
rest_of_fields es = members_tokens (members_written (fields_of (entries es)))

pub field_put : (whole old named new : List Token) (name text : List ℕ) (value : Value) (more : List (List ℕ × Value)) → text ≡ name → named ≡ old ++ key text ∷ []
    → new ≡ named ++ tree_tokens (written (view value)) → old ++ rest_of_fields ((name, value) ∷ more) ≡ whole → new ++ rest_of_fields more ≡ whole
field_put whole old named new name text value more same key_put put so_far =
    let d = tree_tokens (written (view value)) in
    ap (λ ts. ts ++ rest_of_fields more) (put ∙ ap (λ ts. ts ++ d) (key_put ∙ ap (λ k. old ++ key k ∷ []) same))
    ∙ append_assoc (old ++ key name ∷ []) d (rest_of_fields more) ∙ append_assoc old (key name ∷ []) (d ++ rest_of_fields more) ∙ so_far
