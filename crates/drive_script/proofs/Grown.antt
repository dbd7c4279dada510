-- A script that grows line by line.
use Rattle.std.specs.Prelude.{
  ◌≡◌,
  ℕ,
  suc,
  ◌<◌,
  ◌≤◌,
  ◌+◌,
  List,
  [],
  ◌∷◌,
  ◌++◌,
  length,
  take,
  get_or,
  map,
  slice_get,
  Bool,
  true,
  false,
  cond,
  Option,
  Some,
  None,
  option_map,
  unwrap_or,
  Result,
  Ok,
  Err,
  IfOk,
  OnOk,
  OnErr,
  refl,
}
use Rattle.std.specs.Ordering.{eq_by_cmp}
use Rattle.std.proofs.Common.{ap, sym, subst, ◌∙◌, add-one, arith, below_more}
use Rattle.std.proofs.Math.ListN.{get_or-append}
use Rattle.std.proofs.Math.Seq.{take-suc, take-append_seam, get_or-append_seam}
use Rattle.std.proofs.lemmas.List.{map-append, take-map, take_all, take-append-le, length-append, length-map, length-take-le, append-nil}
use Rattle.std.proofs.lemmas.Option.{slice_get-map, slice_get-get_or}
use Rattle.std.specs.Map.{remove_entry}
use Rattle.std.specs.BTreeMap.{is_at, insert_entry}
use Rattle.map_model.specs.Maps.{at, set, IsSorted}
use Rattle.map_model.specs.MapLaws.{key_is, at-put, sorted-nil, sorted-put, at-remove, sorted-remove}
use Rattle.value_model.specs.Val.{Val}
use Rattle.value_model.specs.Order.{text_cmp}
use Rattle.ejson_value.specs.Key.{name_order}
use Rattle.ejson_value.specs.View.{view, views}
use Rattle.ejson_value.specs.declared.value.Value.{Value}
use Rattle.client_script.specs.declared.line.Line.{Line}
use Rattle.drive_script.specs.declared.line.DriveLine.{DriveLine}
use Rattle.drive_script.specs.declared.line.DriveLine.TheVariants as line
use Rattle.drive_script.specs.Lines.{line_in}
use Rattle.drive_script.specs.Scripts.{Scripted, Clients, operations, acts_of, some_of, IsScriptOf, may_come, IsInPlace, AreLines, IsReadAs, is_bad, IsFirstBad}
use Rattle.drive_script.specs.Growing.{nothing, HasActed, IsWith, Comes, Takes}

-- ---- the script of one line more

operations-more : (ls : List DriveLine) (l : DriveLine) → operations (ls ++ l ∷ []) ≡ operations ls ++ operations (l ∷ [])
operations-more [] l = refl
operations-more (line.Admin op ∷ ls) l = ap (λ ops. op ∷ ops) (operations-more ls l)
operations-more (line.Act client act ∷ ls) l = operations-more ls l

acts-more : (name : List ℕ) (ls : List DriveLine) (l : DriveLine) → acts_of name (ls ++ l ∷ []) ≡ acts_of name ls ++ acts_of name (l ∷ [])
acts-more name [] l = refl
acts-more name (line.Admin op ∷ ls) l = acts-more name ls l
acts-more name (line.Act client act ∷ ls) l =
    elim (eq_by_cmp text_cmp name client) as
    (λ b. cond b (act ∷ acts_of name (ls ++ l ∷ [])) (acts_of name (ls ++ l ∷ [])) ≡ cond b (act ∷ acts_of name ls) (acts_of name ls) ++ acts_of name (l ∷ [])) [
      | true ↦ ap (λ rest. act ∷ rest) (acts-more name ls l)
      | false ↦ acts-more name ls l
    ]

some_of-unwrapped : {X : Type 0} (xs : List X) → unwrap_or (some_of xs) [] ≡ xs
some_of-unwrapped [] = refl
some_of-unwrapped (x ∷ xs) = refl

some_of-more : {X : Type 0} (xs : List X) (x : X) → some_of (xs ++ x ∷ []) ≡ Some (xs ++ x ∷ [])
some_of-more [] x = refl
some_of-more (y ∷ xs) x = refl

clients-more : (ls : List DriveLine) (client : List ℕ) (act : Line) (clients : Clients) (name : List ℕ) →
    ((q : List ℕ) → at text_cmp clients q ≡ some_of (acts_of q ls))
    → cond (eq_by_cmp text_cmp name client) (Some (unwrap_or (at text_cmp clients client) [] ++ act ∷ [])) (at text_cmp clients name) ≡ some_of
    (acts_of name (ls ++ line.Act client act ∷ []))
clients-more ls client act clients name are = by (eq_by_cmp text_cmp name client) refl ∙ sym (ap some_of (acts-more name ls (line.Act client act)))
  where
    by : (e : Bool) → eq_by_cmp text_cmp name client ≡ e
        → cond e (Some (unwrap_or (at text_cmp clients client) [] ++ act ∷ [])) (at text_cmp clients name) ≡ some_of (acts_of name ls ++ cond e (act ∷ []) [])
    by true is =
        ap (λ o. Some (unwrap_or o [] ++ act ∷ [])) (are client)
        ∙ ap (λ xs. Some (xs ++ act ∷ [])) (some_of-unwrapped (acts_of client ls))
        ∙ ap (λ q. Some (acts_of q ls ++ act ∷ [])) (sym (key_is name_order name client is))
        ∙ sym (some_of-more (acts_of name ls) act)
    by false is = are name ∙ ap some_of (sym (append-nil (acts_of name ls)))

pub script-more : (ls : List DriveLine) (l : DriveLine) (s s' : Scripted) → IsScriptOf ls s → IsWith s l s' → IsScriptOf (ls ++ l ∷ []) s'
script-more ls (line.Admin op) s s' is more = record {
  admins = more.0 ∙ ap (λ ops. ops ++ op ∷ []) is.admins ∙ sym (operations-more ls (line.Admin op));
  clients = λ name. ap (λ cs. at text_cmp cs name) more.1 ∙ is.clients name ∙ ap some_of (sym (append-nil (acts_of name ls)))
      ∙ ap some_of (sym (acts-more name ls (line.Admin op)));
  sorted = subst (λ (cs : Clients). IsSorted text_cmp cs) (sym more.1) is.sorted;
}
script-more ls (line.Act client act) s s' is more = record {
  admins = more.0 ∙ is.admins ∙ sym (append-nil (operations ls)) ∙ sym (operations-more ls (line.Act client act));
  clients = λ name. more.1.lines name ∙ clients-more ls client act s.clients name is.clients;
  sorted = more.1.sorted;
}

-- ---- one line more is in its place

get-left : {X : Type 0} (xs : List X) (y : X) (n : ℕ) → n < length xs → slice_get (xs ++ y ∷ []) n ≡ slice_get xs n
get-left xs y n within =
    let further : n < length (xs ++ y ∷ []) = omega (arith, length-append xs (y ∷ [])) in
    slice_get-get_or (xs ++ y ∷ []) n y further ∙ ap Some (get_or-append xs (y ∷ []) y n within) ∙ sym (slice_get-get_or xs n y within)

get-last : {X : Type 0} (xs : List X) (y : X) → slice_get (xs ++ y ∷ []) (length xs) ≡ Some y
get-last xs y =
    let within : length xs < length (xs ++ y ∷ []) = omega (arith, length-append xs (y ∷ [])) in
    slice_get-get_or (xs ++ y ∷ []) (length xs) y within ∙ ap Some (get_or-append_seam xs y [] y)

place-earlier : (ls : List DriveLine) (l : DriveLine) (p : ℕ) → p < length ls → IsInPlace ls p → IsInPlace (ls ++ l ∷ []) p
place-earlier ls l p within is =
    let upto : p ≤ length ls = omega arith in record {
      before = is.before;
      script = subst (λ taken. IsScriptOf taken is.before) (sym (take-append-le p ls (l ∷ []) upto)) is.script;
      comes = ap (option_map (may_come is.before)) (get-left ls l p within) ∙ is.comes;
    }

place-last : (ls : List DriveLine) (l : DriveLine) (s : Scripted) → IsScriptOf ls s → may_come s l ≡ true → IsInPlace (ls ++ l ∷ []) (length ls)
place-last ls l s is may = record {
  before = s;
  script = subst (λ taken. IsScriptOf taken s) (sym (take-append_seam ls (l ∷ []))) is;
  comes = ap (option_map (may_come s)) (get-last ls l) ∙ ap Some may;
}

places-more : (ls : List DriveLine) (l : DriveLine) (s : Scripted) → IsScriptOf ls s → may_come s l ≡ true → ((p : ℕ) → p < length ls → IsInPlace ls p)
    → (p : ℕ) → p < length (ls ++ l ∷ []) → IsInPlace (ls ++ l ∷ []) p
places-more ls l s is may are p within =
    let upto : p < length ls + 1 = omega (arith, length-append ls (l ∷ [])) in
    below_more (IsInPlace (ls ++ l ∷ [])) (length ls) (λ q lt. place-earlier ls l q lt (are q lt)) (place-last ls l s is may) p upto

-- ---- a value is taken

taken_by : (did : Bool) (s : Scripted) (o : Option DriveLine) (l : DriveLine) (s' : Scripted) → o ≡ Some l → Comes did s l s' → Takes did s o s'
taken_by true s o l s' is comes = (l, is, comes)
taken_by false s o l s' is comes = ap (is_bad s) is ∙ ap (λ b. cond b false true) comes.0

pub takes_by : {E : Type 0} (r : Result Bool E) (s : Scripted) (o : Option DriveLine) (l : DriveLine) (s' : Scripted) → o ≡ Some l →
    IfOk r (λ did. Comes did s l s') → IfOk r (λ did. Takes did s o s')
takes_by (Ok did) s o l s' is comes = taken_by did s o l s' is comes
takes_by (Err e) s o l s' is comes = tt

-- ---- values that were read so far

pub nothing_read : (s : Scripted) → s ≡ nothing → IsReadAs [] s
nothing_read s is = subst (λ (x : Scripted). IsReadAs [] x) (sym is) (record {
  lines = [];
  are = record { each = refl; in_place = λ place within. let no : ⊥ = omega (arith, within) in absurd no };
  script = record { admins = refl; clients = λ name. refl; sorted = sorted-nil text_cmp };
})

value-more : (values : List Val) (v : Val) (s s' : Scripted) → IsReadAs values s → Takes true s (line_in v) s' → IsReadAs (values ++ v ∷ []) s'
value-more values v s s' r t =
    let l = t.0 in record {
      lines = r.lines ++ l ∷ [];
      are = record {
        each =
            map-append line_in values (v ∷ [])
            ∙ ap (λ os. os ++ line_in v ∷ []) r.are.each
            ∙ ap (λ o. map Some r.lines ++ o ∷ []) t.1
            ∙ sym (map-append Some r.lines (l ∷ []));
        in_place = places-more r.lines l s r.script t.2.0 r.are.in_place;
      };
      script = script-more r.lines l s s' r.script t.2.1;
    }

pub one_more : (all : List Value) (i : ℕ) (value : Value) (s s' : Scripted) → i < length all → value ≡ get_or all i value →
    IsReadAs (views (take i all)) s → Takes true s (line_in (view value)) s'
    → IsReadAs (views (take (i + 1) all)) s'
one_more all i value s s' within is r takes =
    let grown : views (take i all) ++ view value ∷ [] ≡ views (take (i + 1) all) =
    ap (λ v. views (take i all) ++ view v ∷ []) is
    ∙ sym (map-append view (take i all) (get_or all i value ∷ []))
    ∙ ap views (sym (take-suc all i value within))
    ∙ ap (λ n. views (take n all)) (sym (add-one i)) in
    subst (λ values. IsReadAs values s') grown (value-more (views (take i all)) (view value) s s' r takes)

counted : (values : List Val) (lines : List DriveLine) → map line_in values ≡ map Some lines → length lines ≡ length values
counted values lines each = sym (length-map lines Some) ∙ sym (ap length each) ∙ length-map values line_in

-- the value behind them is the first bad one
pub first_bad : (all : List Value) (whole : List Val) (i number : ℕ) (value : Value) (s : Scripted) → i < length all → value ≡ get_or all i value →
    IsReadAs (views (take i all)) s → is_bad s (line_in (view value)) ≡ true
    → number ≡ i + 1 → views all ≡ whole → IsFirstBad whole number
first_bad all whole i number value s within is r bad numbered are =
    let upto : i ≤ length all = omega arith in
    let count : length r.lines ≡ i = counted (views (take i all)) r.lines r.are.each ∙ length-map (take i all) view ∙ length-take-le i all upto in
    let taken : views (take i all) ≡ take (length r.lines) (views all) = sym (take-map view i all) ∙ ap (λ n. take n (views all)) (sym count) in
    subst (λ vs. IsFirstBad vs number) are (record {
      lines = r.lines;
      counted = numbered ∙ add-one i ∙ ap suc (sym count);
      are = subst (λ vs. AreLines vs r.lines) taken r.are;
      before = s;
      script = r.script;
      bad =
          ap (λ n. option_map (λ v. is_bad s (line_in v)) (slice_get (views all) n)) count
          ∙ ap (option_map (λ v. is_bad s (line_in v))) (slice_get-map view all i)
          ∙ ap (λ o. option_map (λ v. is_bad s (line_in v)) (option_map view o)) (slice_get-get_or all i value within ∙ ap Some (sym is))
          ∙ ap Some bad;
    })

pub all_read : (all : List Value) (whole : List Val) (i : ℕ) (s : Scripted) → length all ≤ i → views all ≡ whole → IsReadAs (views (take i all)) s →
    IsReadAs whole s
all_read all whole i s past are r = subst (λ vs. IsReadAs vs s) (ap views (take_all i all past) ∙ are) r

-- ---- the scripts of the clients

pub taken_sorted : (old new : Clients) (client : List ℕ) → IsSorted text_cmp old → new ≡ set text_cmp old client None → IsSorted text_cmp new
taken_sorted old new client sorted is = subst (λ (cs : Clients). IsSorted text_cmp cs) (sym is) (sorted-remove name_order old client sorted)

pub put_sorted : (old new : Clients) (client : List ℕ) (lines : List Line) → IsSorted text_cmp old → new ≡ insert_entry text_cmp old client lines →
    IsSorted text_cmp new
put_sorted old new client lines sorted is = subst (λ (cs : Clients). IsSorted text_cmp cs) (sym is) (sorted-put name_order old client lines sorted)

-- a client's script is taken out, and put back with one more line
pub acted : (old mid new : Clients) (client : List ℕ) (act : Line) (there : Option (List Line)) (lines : List Line) → IsSorted text_cmp old →
    there ≡ at text_cmp old client
    → mid ≡ set text_cmp old client None → lines ≡ unwrap_or there [] ++ act ∷ [] → new ≡ insert_entry text_cmp mid client lines → HasActed old client act new
acted old mid new client act there lines sorted found removed more put = record {
  lines = λ name.
      ap (λ cs. at text_cmp cs name) put
      ∙ at-put name_order mid client lines name
      ∙ ap (λ cs. cond (eq_by_cmp text_cmp name client) (Some lines) (at text_cmp cs name)) removed
      ∙ by name (eq_by_cmp text_cmp name client) refl;
  sorted = put_sorted mid new client lines (taken_sorted old mid client sorted removed) put;
}
  where
    by : (name : List ℕ) (e : Bool) → eq_by_cmp text_cmp name client ≡ e
        → cond e (Some lines) (at text_cmp (remove_entry (is_at (text_cmp client)) old) name) ≡ cond e
        (Some (unwrap_or (at text_cmp old client) [] ++ act ∷ [])) (at text_cmp old name)
    by name true is = ap Some more ∙ ap (λ o. Some (unwrap_or o [] ++ act ∷ [])) found
    by name false is = at-remove name_order old client name sorted ∙ ap (λ b. cond b None (at text_cmp old name)) is

-- and it is so where there was memory for it
pub acted_by : {E : Type 0} (r : Result (Unit {0}) E) (old mid new : Clients) (client : List ℕ) (act : Line) (there : Option (List Line))
    (lines : List Line) → IsSorted text_cmp old → there ≡ at text_cmp old client
    → mid ≡ set text_cmp old client None → lines ≡ unwrap_or there [] ++ act ∷ [] → OnOk r (new ≡ insert_entry text_cmp mid client lines) →
    OnOk r (HasActed old client act new)
acted_by (Ok u) old mid new client act there lines sorted found removed more put = acted old mid new client act there lines sorted found removed more put
acted_by (Err e) old mid new client act there lines sorted found removed more put = tt

pub sorted_by : {E : Type 0} (r : Result (Unit {0}) E) (mid new : Clients) (client : List ℕ) (lines : List Line) → IsSorted text_cmp mid →
    OnOk r (new ≡ insert_entry text_cmp mid client lines) → OnErr r (new ≡ mid) → IsSorted text_cmp new
sorted_by (Ok u) mid new client lines sorted put same = put_sorted mid new client lines sorted put
sorted_by (Err e) mid new client lines sorted put same = subst (λ (cs : Clients). IsSorted text_cmp cs) (sym same) sorted

-- ---- a line is put behind the others

pub adds_operation : {E : Type 0} (r : Result (Unit {0}) E) (admins more : List (List Val)) (clients : Clients) (l : DriveLine) (op : List Val) →
    l ≡ line.Admin op → OnOk r (more ≡ admins ++ op ∷ [])
    → OnOk r (IsWith (record { admins = admins; clients = clients }) l (record { admins = more; clients = clients }))
adds_operation (Ok u) admins more clients l op is put =
    let P : DriveLine → Type 0 = λ x. IsWith (record { admins = admins; clients = clients }) x (record { admins = more; clients = clients }) in subst P (sym is) (put, refl)
adds_operation (Err e) admins more clients l op is put = tt

pub adds_act : {E : Type 0} (r : Result (Unit {0}) E) (admins : List (List Val)) (old new : Clients) (l : DriveLine) (client : List ℕ) (act : Line) →
    l ≡ line.Act client act → OnOk r (HasActed old client act new)
    → OnOk r (IsWith (record { admins = admins; clients = old }) l (record { admins = admins; clients = new }))
adds_act (Ok u) admins old new l client act is acts =
    let P : DriveLine → Type 0 = λ x. IsWith (record { admins = admins; clients = old }) x (record { admins = admins; clients = new }) in subst P
    (sym is) (refl, acts)
adds_act (Err e) admins old new l client act is acts = tt
