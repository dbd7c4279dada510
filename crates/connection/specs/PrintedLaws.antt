-- What is printed of a session's journal are the lines of what is kept of its client.
use Rattle.std.specs.Prelude.{◌≡◌, ℕ, List, [], ◌∷◌, ◌++◌, map, take, drop, Option, refl}
use Rattle.std.proofs.Common.{ap, ap₂, sym, ◌∙◌}
use Rattle.std.proofs.lemmas.List.{map-append}
use Rattle.session_core.specs.history_model.Lines.{line_of}
use Rattle.session_core.specs.session_journal_laws.declared.stored.Stored.{Stored}
use Rattle.session_core.specs.Lines.{lines_with}
use Rattle.connection_laws.specs.world_model.Lines.{Line, out_line, line_text}
use Rattle.connection_laws.specs.Connection.{AConnection}
use Rattle.connection_laws.specs.Printing.{kept_value, kept_lines, kept_journal}
use Rattle.connection.specs.Printed.{out_text, texts_in, printed, head_text, session_lines}

out_texts_are : (texts : List (List ℕ)) → map line_text (map out_line texts) ≡ map out_text texts
out_texts_are [] = refl
out_texts_are (t ∷ texts) = ap (λ (ts : List (List ℕ)). out_text t ∷ ts) (out_texts_are texts)

printed_is : (journal : List Stored) (ids : List (Option (List ℕ))) (counts : List ℕ) (texts : List (List ℕ)) →
    printed (lines_with journal ids) counts texts ≡ map line_text (kept_lines journal ids counts texts)
printed_is [] ids counts texts = refl
printed_is (s ∷ journal) [] counts texts = refl
printed_is (s ∷ journal) (id ∷ ids) [] texts = refl
printed_is (s ∷ journal) (id ∷ ids) (n ∷ counts) texts =
    let some : List Line = map out_line (take n texts) in
    let rest : List Line = kept_lines journal ids counts (drop n texts) in
    ap (λ (ts : List (List ℕ)). line_of (kept_value s id) ∷ ts)
    (ap₂ (λ (a b : List (List ℕ)). a ++ b) (sym (out_texts_are (take n texts))) (printed_is journal ids counts (drop n texts))
    ∙ sym (map-append line_text some rest))

pub session_lines_are : (x : AConnection) → session_lines x.session x.sent ≡ map line_text (kept_journal x)
session_lines_are x = ap (λ (ts : List (List ℕ)). head_text x.session.carried.number ∷ ts)
    (printed_is x.session.carried.journal x.session.ids x.session.carried.counts (texts_in x.sent x.session))
