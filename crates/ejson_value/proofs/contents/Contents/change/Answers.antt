use Rattle.std.proofs.Common.{ap, is_some, subst, sym, ◌∙◌}
use Rattle.std.proofs.lemmas.Result.{on_ok_weaker, on_err_weaker}
use Rattle.std.specs.BTreeMap.{insert_entry}
use Rattle.ejson_value.specs.Key.{key_cmp}
use Rattle.ejson_value.specs.Rows.{Rows, AreRows}
use Rattle.ejson_value.specs.Fields.{with_edit}
use Rattle.ejson_value.proofs.PutAll.{written, AreRows-written}
use Rattle.ejson_value.proofs.Edits.{bytes_found, no_bytes, with_found, with_none, put_again}
use Rattle.ejson_value.proofs.contents.Contents.change.Goals.{in-None, in-Some}
use Rattle.ejson_value.proofs.contents.Contents.change.Goals as goal

pub invariant_of-self : goal.invariant_of-self
invariant_of-self c =
    let rows = c.self.inside.docs.entries in
    elim c.match-get_mut.branch [
      | in-None w ↦ subst AreRows (sym (ap (λ s. s.docs.entries) w.self-inside-is ∙ ap (λ m. m.entries) c.get_mut.follows.holds-at-none)) c.self.invariant
      | in-Some w ↦
          let doc = w.change_in-bytes.new.doc in
          let found = w.in-Some.ensures.value in
          let holds = c.get_mut.follows.holds doc in
          let put = written rows (c.get_mut.follows.lender doc).entries c.args.key.now doc c.self.invariant.by_key holds.4 (holds.3 (ap is_some (sym found))).0 in
          AreRows-written rows c.match-get_mut.self-inside.docs.entries c.args.key.now doc (ap (λ s. s.docs.entries) w.self-inside-is ∙ put) c.self.invariant w.known.ensures
    ]

pub returns-clause-bytes : goal.returns-clause-bytes
returns-clause-bytes c =
    let rows = c.self.inside.docs.entries in
    elim c.match-get_mut.branch [
      | in-None w ↦ rw (w.result-is, ← c.self.view_is) (sym (no_bytes rows c.args.key.now c.args.fields.now c.args.cleared.now w.in-None.ensures.value))
      | in-Some w ↦ rw (w.result-is, ← c.self.view_is, bytes_found rows c.args.key.now c.args.fields.now c.args.cleared.now w.in-Some.doc.now w.in-Some.ensures.value) w.change_in-bytes.ensures.bytes
    ]

pub returns-clause-ok : goal.returns-clause-ok
returns-clause-ok c =
    let rows = c.self.inside.docs.entries in
    elim c.match-get_mut.branch [
      | in-None w ↦
          rw w.result-is
          (ap (λ s. s.docs.entries) w.self-inside-is ∙ ap (λ m. m.entries) c.get_mut.follows.holds-at-none
          ∙ sym (with_none rows c.args.key.now c.args.fields.now c.args.cleared.now c.self.invariant.by_key w.in-None.ensures.value)
          ∙ ap (λ (rows : Rows). with_edit rows c.args.key.now c.args.fields.now c.args.cleared.now) c.self.view_is)
      | in-Some w ↦
          let doc = w.change_in-bytes.new.doc in
          let found = w.in-Some.ensures.value in
          let holds = c.get_mut.follows.holds doc in
          let put = written rows (c.get_mut.follows.lender doc).entries c.args.key.now doc c.self.invariant.by_key holds.4 (holds.3 (ap is_some (sym found))).0 in
          rw w.result-is
          (on_ok_weaker w.change_in-bytes.result (λ is.
          ap (λ s. s.docs.entries) w.self-inside-is ∙ put ∙ ap (insert_entry key_cmp rows c.args.key.now) is
          ∙ sym (with_found rows c.args.key.now c.args.fields.now c.args.cleared.now w.in-Some.doc.now found)
          ∙ ap (λ (rows : Rows). with_edit rows c.args.key.now c.args.fields.now c.args.cleared.now) c.self.view_is) w.change_in-bytes.ensures.ok)
    ]

pub returns-clause-err : goal.returns-clause-err
returns-clause-err c =
    let rows = c.self.inside.docs.entries in
    elim c.match-get_mut.branch [
      | in-None w ↦ rw w.result-is tt
      | in-Some w ↦
          let doc = w.change_in-bytes.new.doc in
          let found = w.in-Some.ensures.value in
          let holds = c.get_mut.follows.holds doc in
          let put = written rows (c.get_mut.follows.lender doc).entries c.args.key.now doc c.self.invariant.by_key holds.4 (holds.3 (ap is_some (sym found))).0 in
          rw w.result-is
          (on_err_weaker w.change_in-bytes.result (λ same.
          ap (λ s. s.docs.entries) w.self-inside-is ∙ put ∙ ap (insert_entry key_cmp rows c.args.key.now) same
          ∙ put_again rows c.args.key.now w.in-Some.doc.now c.self.invariant.by_key found
          ∙ c.self.view_is) w.change_in-bytes.ensures.err)
    ]
