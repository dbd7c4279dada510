-- A struct crosses where its fields do, and a closure where its captures do. A search at the goal of a thread breaks off, where
-- the closure's type shows all that a store holds.
use mathlib.Core.List.{List, [], ◌∷◌}
use Prim.Native.Nat.{ℕ}
use mir.Syntax.{Sym, Ty}
use denote.Exit.{no}
use denote.RattleType.{RattleType}
use denote.Param.{param, arg}
use denote.Param.Send.{IsSend, IsSync, AllSend, AllSync, param_send, arg_send, recorded_send, recorded_sync, struct_send, struct_sync}
use denote.Struct.Struct.{Struct}
use denote.Struct.Field.{rows}
use denote.Struct.Declared.{Declared, shape, fields, row}
use denote.Struct.Tuple.{TupleAt, parts, type_at}

pub fields_send : (T : Declared) → AllSend (fields T) → IsSend (row T)
fields_send T s = recorded_send (Struct (shape T)) T.D T.to T.to_one (struct_send (shape T) s)

pub fields_sync : (T : Declared) → AllSync (fields T) → IsSync (row T)
fields_sync T s = recorded_sync (Struct (shape T)) T.D T.to T.to_one (struct_sync (shape T) s)

-- Each of these types crosses.
pub data AreSent : List RattleType → Type 1 where
  none : AreSent []
  and : {T : RattleType} {Ts : List RattleType} → IsSend T → AreSent Ts → AreSent (T ∷ Ts)

parts_send : (Ts : List RattleType) → AreSent Ts → AllSend (rows (parts Ts))
parts_send _ none = tt
parts_send _ (and t ts) = (t, parts_send _ ts)

pub captures : (i : ℕ) (δ : Ty) (ν : Sym) (Ts : List RattleType) → AreSent Ts → IsSend (param i (arg δ no (TupleAt ν Ts)))
captures i δ ν Ts s = param_send i _ (arg_send δ no _ (fields_send (type_at ν Ts) (parts_send Ts s)))
