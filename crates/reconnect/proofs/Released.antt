-- Held texts that are given one after another.
use Rattle.std.specs.Prelude.{◌≡◌, ℕ, List, ◌∷◌, ◌++◌, Result, Ok}
use Rattle.std.proofs.Common.{sym, ap, ◌∙◌}
use Rattle.std.proofs.lemmas.List.{append_assoc}
use Rattle.ddp_messages.specs.declared.fault.MsgFault.{MsgFault}
use Rattle.ddp_messages.specs.ServerMessage.{ServerMessage}
use Rattle.ddp_messages.specs.Answers.{server_answer}
use Rattle.reconnect_model.specs.Revival.{Revival}
use Rattle.reconnect_model.specs.Giving.{Heard, settled, given_for, released_by, released}

-- what is left of the held texts, once the first is read as this
abbrev then_released : List (List ℕ) → Revival → List ℕ → List (List ℕ) → Result ServerMessage MsgFault → Heard
then_released before r text held answer =
    let first = released_by before r text answer in
    let rest = released before first.revival held in
    record { revival = rest.revival; texts = first.texts ++ rest.texts }

pub next_revival : (before : List (List ℕ)) (r : Revival) (text : List ℕ) (m : ServerMessage) (held : List (List ℕ)) → server_answer text ≡ Ok m →
    (released before (settled r m) held).revival ≡ (released before r (text ∷ held)).revival
next_revival before r text m held reads = sym (ap (λ answer. (then_released before r text held answer).revival) reads)

pub next_texts : (before : List (List ℕ)) (r : Revival) (text : List ℕ) (m : ServerMessage) (held texts : List (List ℕ)) → server_answer text ≡ Ok m →
    (texts ++ given_for before text m) ++ (released before (settled r m) held).texts ≡ texts ++ (released before r (text ∷ held)).texts
next_texts before r text m held texts reads =
    append_assoc texts (given_for before text m) (released before (settled r m) held).texts
    ∙ sym (ap (λ answer. texts ++ (then_released before r text held answer).texts) reads)
