-- What is kept of an entry that its line tells in full.
use Rattle.std.proofs.Common.{◌≡◌, ℕ, List, ap, ap₂, sym, subst, ◌∙◌}
use Rattle.value_model.specs.Val.{Val}
use Rattle.value_model.specs.ValLaws.{list_of-vals_of}
use Rattle.ejson_value.specs.declared.value.Value.{Value}
use Rattle.history_model.specs.declared.entry.Entry.{Entry}
use Rattle.history_model.specs.declared.entry.Entry.TheVariants as entry
use Rattle.ejson_value.specs.Code.{held-view}
use Rattle.history_log.specs.declared.kept_entry.Form.{Form}
use Rattle.history_log.specs.declared.kept_entry.Form.TheVariants as form
use Rattle.history_log.specs.Entries.{words_in, begin_in, admin_in, entry_of, Says, Keeps}
use Rattle.history_model.specs.Lines.{entry_value, line_of}

-- a line that reads as its entry again is the one that is printed of what it reads as
line_kept : (f : Form) (e : Entry) (line : List ℕ) → entry_of f ≡ e → line ≡ line_of (entry_value e) → line ≡ line_of (entry_value (entry_of f))
line_kept f e line is printed = printed ∙ ap (λ x. line_of (entry_value x)) (sym is)

pub begin_kept : (e : Entry) (session k : ℕ) (method : List ℕ) (params : List Val) (seed : Value) (line : List ℕ) →
    e ≡ entry.Begin session k method params seed → Says line (entry_value e) → Keeps (form.Begin session line) e
begin_kept e session k method params seed line made says =
    let f : Form = form.Begin session line in
    let says' : Says line (entry_value (entry.Begin session k method params seed)) = subst (λ (x : Entry). Says line (entry_value x)) made says in
    let is : entry_of f ≡ e =
    ap (λ r. begin_in session (words_in r)) says'.read
    ∙ (ap₂ (λ ps v. entry.Begin session k method ps v) (list_of-vals_of params) (held-view seed) ∙ sym made) in
    record { is = is; line = line_kept f e line is says.printed }

pub admin_kept : (e : Entry) (op : List Val) (line : List ℕ) → e ≡ entry.Admin op → Says line (entry_value e) → Keeps (form.Admin line) e
admin_kept e op line made says =
    let f : Form = form.Admin line in
    let says' : Says line (entry_value (entry.Admin op)) = subst (λ (x : Entry). Says line (entry_value x)) made says in
    let is : entry_of f ≡ e = ap (λ r. admin_in (words_in r)) says'.read ∙ (ap (λ ps. entry.Admin ps) (list_of-vals_of op) ∙ sym made) in
    record { is = is; line = line_kept f e line is says.printed }
