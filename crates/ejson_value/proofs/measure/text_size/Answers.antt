use Rattle.std.proofs.Common.{sym, ap, ◌∙◌, arith}
use Rattle.value_model.specs.Size.{text_size}
use Rattle.ejson_value.proofs.Plain.{plain_size}
use Rattle.ejson_value.proofs.measure.text_size.Goals as goal

pub returns-then-has_plain_bytes : goal.returns-then-has_plain_bytes
returns-then-has_plain_bytes c =
    let plain = plain_size c.as_bytes-bytes.result.now (sym c.has_plain_bytes.ensures ∙ c.if-has_plain_bytes.true) in
    omega (arith, plain, c.saturating_add.ensures, ap text_size c.as_bytes-bytes.ensures)
