-- Lines that are read one by one.
use Rattle.std.proofs.Common.{◌≡◌, ℕ, ◌+◌, ◌/◌, ◌<◌, ◌≤◌, List, [], ◌∷◌, ◌++◌, length, ◌==◌, true, Result, Ok, IfOk, refl, ap, sym, subst, ◌∙◌, arith}
use Rattle.std.proofs.lemmas.Bool.{eqb-true}
use Rattle.std.proofs.lemmas.List.{length-append, append-nil}
use Rattle.checking.specs.Input.{lines_in, lines_to}
use Rattle.checking.specs.InputLaws.{lines-none, lines_to-none}
use Rattle.replay_core.specs.declared.tasks.Batch.{Batch}
use Rattle.replay_core.specs.declared.tasks.Halves.{Halves}
use Rattle.replay_core.specs.declared.tasks.ReadLine.{ReadLine}
use Rattle.replay_core.specs.Tasks.{IsRead, AreRead, texts_of, Reads, ReadsAll, AreHalves}

-- so far the first lines of these bytes are read, and these follow
pub record HasRead (bytes : List ℕ) (rs : List ReadLine) (rest : List ℕ) : Type 0 where
  pub lines : lines_in bytes ≡ texts_of rs ++ lines_in rest
  pub read : AreRead rs
  pub shorter : length rs + length rest ≤ length bytes

are_read_more : (rs : List ReadLine) (r : ReadLine) → AreRead rs → IsRead r → AreRead (rs ++ r ∷ [])
are_read_more [] r p q = (q, tt)
are_read_more (x ∷ rs) r p q = (p.0, are_read_more rs r p.1 q)

texts_more : (rs : List ReadLine) (r : ReadLine) (ls : List (List ℕ)) → texts_of (rs ++ r ∷ []) ++ ls ≡ texts_of rs ++ r.line.now ∷ ls
texts_more [] r ls = refl
texts_more (x ∷ rs) r ls = ap (λ ts. x.line.now ∷ ts) (texts_more rs r ls)

pub one_read : (bytes : List ℕ) (rs now : List ReadLine) (r : ReadLine) (rest more : List ℕ) → HasRead bytes rs rest → now ≡ rs ++ r ∷ [] → IsRead r →
    lines_in rest ≡ r.line.now ∷ lines_in more → length more < length rest → HasRead bytes now more
one_read bytes rs now r rest more h pushed is cut less =
    subst (λ xs. HasRead bytes xs more) (sym pushed) (record {
      lines = h.lines ∙ (ap (λ ls. texts_of rs ++ ls) cut ∙ sym (texts_more rs r (lines_in more)));
      read = are_read_more rs r h.read is;
      shorter = omega (arith, h.shorter, less, length-append rs (r ∷ []));
    })

nothing : (xs : List ℕ) → length xs ≡ 0 → xs ≡ []
nothing [] e = refl
nothing (x ∷ xs) e = cc e

-- nothing follows any more
pub all_read : (bytes : List ℕ) (rs : List ReadLine) (rest : List ℕ) → HasRead bytes rs rest → (length rest == 0) ≡ true → ReadsAll bytes rs
all_read bytes rs rest h none = record {
  lines = h.lines ∙ (ap (λ ls. texts_of rs ++ lines_in ls) (nothing rest (eqb-true (length rest) 0 none)) ∙ append-nil (texts_of rs));
  read = h.read;
  few = omega (arith, h.shorter);
}

none_left : (more bytes : List ℕ) → length more ≤ length bytes → bytes ≡ [] → more ≡ []
none_left more bytes less none = nothing more (let none' : length bytes ≡ 0 = ap length none in omega (arith, less, none'))

-- what follows the first lines is no longer than the whole
parts : (now rest bytes : List ℕ) → now ++ rest ≡ bytes → length now + length rest ≡ length bytes
parts now rest bytes whole = sym (length-append now rest) ∙ ap length whole

-- the first lines are read, and these bytes follow
pub first_read : (bytes now : List ℕ) (place : ℕ) (b : Batch) → now ≡ lines_to place bytes → now ++ b.rest.now ≡ bytes → lines_in bytes ≡ lines_in now ++ lines_in b.rest.now →
    ReadsAll now b.read.items → Reads bytes place b
first_read bytes now place b is whole cut r = record {
  first = ap lines_in (sym is) ∙ r.lines;
  lines = cut ∙ ap (λ ls. ls ++ lines_in b.rest.now) r.lines;
  read = r.read;
  shorter = omega (arith, r.few, parts now b.rest.now bytes whole);
  some = λ none. none_left b.rest.now bytes (omega (arith, parts now b.rest.now bytes whole)) (lines_to-none place bytes (sym is ∙ lines-none now (r.lines ∙ ap texts_of none)));
}

texts_both : (xs ys : List ReadLine) → texts_of (xs ++ ys) ≡ texts_of xs ++ texts_of ys
texts_both [] ys = refl
texts_both (x ∷ xs) ys = ap (λ ts. x.line.now ∷ ts) (texts_both xs ys)

are_read_both : (xs ys : List ReadLine) → AreRead xs → AreRead ys → AreRead (xs ++ ys)
are_read_both [] ys p q = q
are_read_both (x ∷ xs) ys p q = (p.0, are_read_both xs ys p.1 q)

-- what was read, where it was
pub if_ok : {A E : Type 0} (r : Result A E) (a : A) → r ≡ Ok a → (P : A → Type 0) → IfOk r P → P a
if_ok {A} {E} r a is P p = subst (λ (x : Result A E). IfOk x P) is p

-- both parts of the first lines are read
pub both_read : (bytes : List ℕ) (place : ℕ) (h : Halves) (xs ys : List ReadLine) (b : Batch) → ReadsAll h.one.now xs → ReadsAll h.other.now ys → b.read.items ≡ xs ++ ys → b.rest.now ≡ h.rest.now →
    AreHalves bytes place h → Reads bytes place b
both_read bytes place h xs ys b p q items rest cut =
    let all : lines_in (lines_to place bytes) ≡ texts_of b.read.items =
    cut.first
    ∙ (ap (λ ls. ls ++ lines_in h.other.now) p.lines
    ∙ (ap (λ ls. texts_of xs ++ ls) q.lines
    ∙ (sym (texts_both xs ys) ∙ ap texts_of (sym items)))) in
    let whole : length (lines_to place bytes) + length h.rest.now ≡ length bytes = parts (lines_to place bytes) h.rest.now bytes cut.whole in
    let other : length b.rest.now ≡ length h.rest.now = ap length rest in
    record {
      first = all;
      lines = cut.lines ∙ (ap (λ ls. ls ++ lines_in h.rest.now) all ∙ ap (λ more. texts_of b.read.items ++ lines_in more) (sym rest));
      read = subst (λ rs. AreRead rs) (sym items) (are_read_both xs ys p.read q.read);
      shorter =
          let one : length b.read.items ≡ length xs + length ys = ap length items ∙ length-append xs ys in
          omega (arith, p.few, q.few, parts h.one.now h.other.now (lines_to place bytes) cut.both, whole, one, other);
      some = λ none. none_left b.rest.now bytes (omega (arith, whole, other)) (lines_to-none place bytes (lines-none (lines_to place bytes) (all ∙ ap texts_of none)));
    }

-- the parts of what is cut twice
pub are_halves : (bytes now : List ℕ) (place : ℕ) (h : Halves) → now ≡ lines_to place bytes → now ++ h.rest.now ≡ bytes → lines_in bytes ≡ lines_in now ++ lines_in h.rest.now →
    h.one.now ≡ lines_to (length now / 2) now → h.one.now ++ h.other.now ≡ now → lines_in now ≡ lines_in h.one.now ++ lines_in h.other.now → AreHalves bytes place h
are_halves bytes now place h is whole cut half both again = record {
  half = half ∙ ap (λ l. lines_to (length l / 2) l) is;
  both = both ∙ is;
  whole = ap (λ l. l ++ h.rest.now) (sym is) ∙ whole;
  first = ap lines_in (sym is) ∙ again;
  lines = cut ∙ ap (λ l. lines_in l ++ lines_in h.rest.now) is;
}
