use Rattle.std.proofs.Common.{◌++◌, length, refl, sym, ap, ◌∙◌}
use Rattle.std.proofs.lemmas.Result.{IfOk-weaker}
use Rattle.json.specs.Print.{print}
use Rattle.serde_json.specs.Read as json_text
use Rattle.serde_json.proofs.Texts.{print-outline}
use Rattle.ejson_value.specs.View.{view}
use Rattle.ejson_codec.specs.CompactLaws.{read-compact_text}
use Rattle.ejson_codec.specs.ExactLaws.{exact-written}
use Rattle.ejson_codec.specs.SizeLaws.{size-written}
use Rattle.ejson_codec.specs.Tokens.{tree_tokens}
use Rattle.ejson_codec.specs.TreeLaws.{rising_written}
use Rattle.ejson_codec.specs.Written.{written}
use Rattle.ejson_codec.proofs.TextLaws.{parsed_back}
use Rattle.ejson_codec.proofs.texts.text.Goals as goal

pub returns-in_err-out-clause-keys : goal.returns-in_err-out-clause-keys
returns-in_err-out-clause-keys c = rising_written (view c.args.value.now) c.known.ensures

pub returns-in_err-put_value-clause-keys : goal.returns-in_err-put_value-clause-keys
returns-in_err-put_value-clause-keys c = rising_written (view c.args.value.now) c.known.ensures

pub returns-clause-keys : goal.returns-clause-keys
returns-clause-keys c = rising_written (view c.args.value.now) c.known.ensures

pub returns-clause-exact : goal.returns-clause-exact
returns-clause-exact c =
    let d = written (view c.args.value.now) in
    let all = ap print (c.in_ok-put_value.ensures ∙ ap (λ old. old ++ tree_tokens d) c.in_ok-out.ensures) ∙ print-outline d in
    IfOk-weaker c.finish.result _ _ (λ text is. is ∙ all) c.finish.ensures

pub returns-clause-size : goal.returns-clause-size
returns-clause-size c =
    let size = size-written (view c.args.value.now) c.known.ensures in
    IfOk-weaker c.finish.result _ _ (λ text is. ap length is ∙ sym size) (returns-clause-exact c)

pub returns-clause-reads_back : goal.returns-clause-reads_back
returns-clause-reads_back c =
    let v = view c.args.value.now in
    let read = read-compact_text (written v) (exact-written v c.known.ensures) (rising_written v c.known.ensures) in
    IfOk-weaker c.finish.result _ _ (λ text is. parsed_back v (written v) text refl c.known.ensures (λ shallow. ap json_text.read is ∙ read shallow)) (returns-clause-exact c)
