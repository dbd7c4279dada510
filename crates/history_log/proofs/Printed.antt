-- The text of a value's tokens.
use Rattle.std.specs.Prelude.{Result, IfOk}
use Rattle.std.proofs.Common.{◌≡◌, ℕ, List, [], ◌++◌, ap, subst, ◌∙◌}
use Rattle.json.specs.Token.{Token}
use Rattle.json.specs.Print.{print}
use Rattle.serde_json.proofs.Texts.{print-outline}
use Rattle.value_model.specs.Val.{Val}
use Rattle.ejson_codec.specs.Tokens.{tree_tokens}
use Rattle.ejson_codec.specs.Written.{written}
use Rattle.history_model.specs.Lines.{line_of}

print_is : (v : Val) (first all : List Token) → first ≡ [] → all ≡ first ++ tree_tokens (written v) → print all ≡ line_of v
print_is v first all none put = ap print (put ∙ ap (λ ts. ts ++ tree_tokens (written v)) none) ∙ print-outline (written v)

-- the text that there is, unless memory is short, is the line of the value
pub line_if_printed : {E : Type 0} (v : Val) (first all : List Token) (told : Result (List ℕ) E) → first ≡ [] → all ≡ first ++ tree_tokens (written v) → IfOk told (λ line. line ≡ print all)
    → IfOk told (λ line. line ≡ line_of v)
line_if_printed v first all told none put printed = subst (λ text. IfOk told (λ line. line ≡ text)) (print_is v first all none put) printed
