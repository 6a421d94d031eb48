-- Trees of short texts, and the programs of two of them.
use Rattle.std.specs.Prelude.{ℕ, zero, suc, ◌+◌, pos, List, [], ◌∷◌, ◌++◌, Some, None, codes, true}
use Rattle.pat_words_spec.specs.Patterns.{Zero, One, Tag, Sum}
use Rattle.pat_semantics_spec.specs.Values.{BaseUnit, BaseInt, Plain, MailboxOf, UnitConst, IntConst, VarExpr, Literal, Equal}
use Rattle.pat_semantics_spec.specs.Programs.{Sending, Receiving, BaseSort, MailboxSort, Val, Let, Call, Print, New, Guard, Program}
use Rattle.pat_parser_spec.specs.Trees as tree
use Rattle.pat_parser_spec.specs.Trees.{span, Name, Message, Term, Decl, Tree}
use Rattle.pat_resolver_spec.specs.Numbering.{node}

abbrev name : List ℕ → ℕ → ℕ → Name
name x a b = record { text = x; span = span a b }

abbrev message : Name → List tree.WrittenType → Message
message x ps = record { name = x; payloads = ps }

-- a name's one letter, at this offset
abbrev letter : List ℕ → ℕ → Name
letter x a = name x a (a + 1)

abbrev unit_at : ℕ → Term
unit_at a = tree.ValueTerm (tree.UnitExpr (span a (a + 2))) (span a (a + 2))

abbrev int_at : ℕ → Term
int_at a = tree.ValueTerm (tree.IntExpr (pos 2) (span a (a + 1))) (span a (a + 1))

abbrev var_at : List ℕ → ℕ → Term
var_at x a = tree.ValueTerm (tree.VarExpr x (span a (a + 1))) (span a (a + 1))

-- def main(): Unit { .. }, from this offset on
abbrev main_at : ℕ → Term → Decl
main_at a m = tree.DefDecl (name (codes "main") (a + 4) (a + 8)) [] (tree.BaseType BaseUnit (span (a + 12) (a + 16))) m

-- def main(): Unit { f() }
abbrev pub unknown_function : Tree
unknown_function = main_at 0 (tree.CallTerm (letter (codes "f") 19) [] (span 19 22)) ∷ []

-- def other(): Unit { () }
abbrev pub no_main : Tree
no_main = tree.DefDecl (name (codes "other") 4 9) [] (tree.BaseType BaseUnit (span 13 17)) (unit_at 20) ∷ []

-- def main(): Unit { let x = x in () }
abbrev pub own_bound : Tree
own_bound = main_at 0 (tree.LetTerm (Some (letter (codes "x") 23)) (var_at (codes "x") 27) (unit_at 32) (span 19 34)) ∷ []

-- interface I { m(), m() } and then main
abbrev pub same_tag : Tree
same_tag = tree.InterfaceDecl (letter (codes "I") 10) (message (letter (codes "m") 14) [] ∷ message (letter (codes "m") 19) [] ∷ []) ∷ main_at 25 (unit_at 44) ∷ []

-- def main(): Unit { let a = new[I] in guard a : 1 { free -> () free -> () } } behind interface I { m() }
abbrev pub two_frees : Tree
two_frees =
    tree.InterfaceDecl (letter (codes "I") 10) (message (letter (codes "m") 14) [] ∷ [])
    ∷ main_at 20
    (tree.LetTerm (Some (letter (codes "a") 43)) (tree.NewTerm (letter (codes "I") 51) (span 47 53))
    (tree.GuardTerm (letter (codes "a") 63) (tree.OnePattern (span 67 68))
    (tree.listed (tree.FreeClause (span 71 75) (unit_at 79) ∷ tree.FreeClause (span 82 86) (unit_at 90) ∷ []))
    (span 57 94))
    (span 39 94))
    ∷ []

-- def main(a: Int): Unit { () }
abbrev pub main_with_parameter : Tree
main_with_parameter = tree.DefDecl (name (codes "main") 4 8) (record { name = letter (codes "a") 9; type = tree.BaseType BaseInt (span 12 15) } ∷ []) (tree.BaseType BaseUnit (span 18 22)) (unit_at 25) ∷ []

-- def main(): Unit { let x = 2 in x }
abbrev pub wrong_last : Tree
wrong_last = main_at 0 (tree.LetTerm (Some (letter (codes "x") 23)) (int_at 27) (var_at (codes "x") 32) (span 19 33)) ∷ []

-- def main(): Unit { print(() == ()) }
abbrev pub units_compared : Tree
units_compared = main_at 0 (tree.PrintTerm (tree.OpExpr Equal (tree.UnitExpr (span 25 27)) (tree.UnitExpr (span 31 33)) (span 25 33)) (span 19 34)) ∷ []

-- def main(): Unit { let x = if true { () } else { 2 } in () }
abbrev pub second_branch : Tree
second_branch =
    main_at 0
    (tree.LetTerm (Some (letter (codes "x") 23))
    (tree.IfTerm (tree.BoolExpr true (span 30 34)) (unit_at 37) (int_at 49) (span 27 52))
    (unit_at 56) (span 19 58))
    ∷ []

-- a tag of interface J in a guard on a mailbox of interface I
abbrev pub foreign_tag : Tree
foreign_tag =
    tree.InterfaceDecl (letter (codes "I") 10) (message (letter (codes "m") 14) [] ∷ [])
    ∷ tree.InterfaceDecl (letter (codes "J") 30) (message (letter (codes "n") 34) [] ∷ [])
    ∷ main_at 40
    (tree.LetTerm (Some (letter (codes "a") 63)) (tree.NewTerm (letter (codes "I") 71) (span 67 73))
    (tree.SendTerm (letter (codes "a") 77) (letter (codes "n") 81) [] (span 77 84))
    (span 59 84))
    ∷ []

-- interface I { m(I!0) } and then main
abbrev pub empty_sending : Tree
empty_sending =
    tree.InterfaceDecl (letter (codes "I") 10)
    (message (letter (codes "m") 14) (tree.MailboxType (letter (codes "I") 16) Sending (Some (tree.ZeroPattern (span 18 19))) (span 16 19) ∷ []) ∷ [])
    ∷ main_at 23 (unit_at 42)
    ∷ []

-- so many messages t1(), t2() and so on, the first with the number k and at the offset a; those from t10 on are longer
abbrev messages : ℕ → ℕ → ℕ → List Message
messages zero k a = []
messages (suc left) k a = message (name (116 ∷ k ∷ []) a (a + 3)) [] ∷ messages left (k + 1) (a + 7)

abbrev short_messages : ℕ → ℕ → ℕ → List Message
short_messages zero k a = []
short_messages (suc left) k a = message (name (116 ∷ k ∷ []) a (a + 2)) [] ∷ short_messages left (k + 1) (a + 6)

-- an interface of 33 tags, and then main
abbrev pub many_tags : Tree
many_tags = tree.InterfaceDecl (letter (codes "I") 10) (short_messages 9 1 14 ++ messages 24 10 68) ∷ main_at 237 (unit_at 256) ∷ []

-- the head of the second function is wrong, and so is the body of the first
abbrev pub body_and_head : Tree
body_and_head =
    tree.DefDecl (letter (codes "f") 4) [] (tree.BaseType BaseInt (span 9 12)) (unit_at 15)
    ∷ tree.DefDecl (letter (codes "g") 24) (record { name = letter (codes "a") 26; type = tree.MailboxType (letter (codes "I") 29) Sending None (span 29 31) } ∷ []) (tree.BaseType BaseUnit (span 34 38)) (unit_at 41)
    ∷ main_at 46 (unit_at 65)
    ∷ []

-- def main(): Unit { let x = 2 in f(x) } and then def f(y: Int): Unit { () }
abbrev pub forward : Tree
forward =
    main_at 0
    (tree.LetTerm (Some (letter (codes "x") 23)) (int_at 27)
    (tree.CallTerm (letter (codes "f") 32) (tree.VarExpr (codes "x") (span 34 35) ∷ []) (span 32 36))
    (span 19 36))
    ∷ tree.DefDecl (letter (codes "f") 43) (record { name = letter (codes "y") 45; type = tree.BaseType BaseInt (span 48 51) } ∷ []) (tree.BaseType BaseUnit (span 54 58)) (unit_at 61)
    ∷ []

-- its program
abbrev pub forward_program : Program
forward_program = record {
  interfaces = [];
  functions =
      record { name = codes "main"; params = []; result = BaseSort BaseUnit; vars = Plain BaseInt ∷ []; body = 0 }
      ∷ record { name = codes "f"; params = BaseSort BaseInt ∷ []; result = BaseSort BaseUnit; vars = Plain BaseInt ∷ []; body = 3 }
      ∷ [];
  main = 0;
  nodes =
      node 0 (Plain BaseUnit) (Let (Some 0) 1 2)
      ∷ node 0 (Plain BaseInt) (Val (Literal (IntConst (pos 2))))
      ∷ node 0 (Plain BaseUnit) (Call 1 (VarExpr 0 ∷ []))
      ∷ node 1 (Plain BaseUnit) (Val (Literal UnitConst))
      ∷ [];
}

-- interface I { m(Int) } and then
-- def main(): Unit { let a = new[I] in guard a : m + 1 { free -> () receive m(x) from b -> free(b) } }
abbrev pub guarding : Tree
guarding =
    tree.InterfaceDecl (letter (codes "I") 10) (message (letter (codes "m") 14) (tree.BaseType BaseInt (span 16 19) ∷ []) ∷ [])
    ∷ main_at 23
    (tree.LetTerm (Some (letter (codes "a") 46)) (tree.NewTerm (letter (codes "I") 54) (span 50 56))
    (tree.GuardTerm (letter (codes "a") 66) (tree.SumPattern (tree.TagPattern (letter (codes "m") 70)) (tree.OnePattern (span 74 75)))
    (tree.listed
    (tree.FreeClause (span 78 82) (unit_at 86)
    ∷ tree.ReceiveClause (span 89 96) (letter (codes "m") 97) (letter (codes "x") 99 ∷ []) (letter (codes "b") 107)
    (tree.FreeTerm (letter (codes "b") 117) (span 112 119))
    ∷ []))
    (span 60 121))
    (span 42 121))
    ∷ []

-- its program
abbrev pub guarding_program : Program
guarding_program = record {
  interfaces = record { name = codes "I"; tags = record { name = codes "m"; payloads = BaseSort BaseInt ∷ [] } ∷ [] } ∷ [];
  functions = record { name = codes "main"; params = []; result = BaseSort BaseUnit; vars = MailboxOf 0 ∷ Plain BaseInt ∷ MailboxOf 0 ∷ []; body = 0 } ∷ [];
  main = 0;
  nodes =
      node 0 (Plain BaseUnit) (Let (Some 0) 1 2)
      ∷ node 0 (MailboxOf 0) (New 0)
      ∷ node 0 (Plain BaseUnit) (Guard 0 (Sum (Tag 0) One) (Some 3) (record { tag = 0; vars = 1 ∷ []; from = 2; body = 4 } ∷ []))
      ∷ node 0 (Plain BaseUnit) (Val (Literal UnitConst))
      ∷ node 0 (Plain BaseUnit) (Guard 2 One (Some 5) [])
      ∷ node 0 (Plain BaseUnit) (Val (Literal UnitConst))
      ∷ [];
}

-- def f(a: Int, a: Int): Unit { () } and then main
abbrev pub same_parameter : Tree
same_parameter =
    tree.DefDecl (letter (codes "f") 4)
    (record { name = letter (codes "a") 6; type = tree.BaseType BaseInt (span 9 12) } ∷ record { name = letter (codes "a") 14; type = tree.BaseType BaseInt (span 17 20) } ∷ [])
    (tree.BaseType BaseUnit (span 23 27)) (unit_at 30)
    ∷ main_at 35 (unit_at 54)
    ∷ []

-- interface I { m() } and then def main(): Unit { let a = new[I] in a ! m(2) }
abbrev pub payload_too_many : Tree
payload_too_many =
    tree.InterfaceDecl (letter (codes "I") 10) (message (letter (codes "m") 14) [] ∷ [])
    ∷ main_at 20
    (tree.LetTerm (Some (letter (codes "a") 43)) (tree.NewTerm (letter (codes "I") 51) (span 47 53))
    (tree.SendTerm (letter (codes "a") 57) (letter (codes "m") 61) (tree.IntExpr (pos 2) (span 63 64) ∷ []) (span 57 65))
    (span 39 65))
    ∷ []

-- interface I { m(I?m, I?0) } and then main
abbrev pub received_payload : Tree
received_payload =
    tree.InterfaceDecl (letter (codes "I") 10)
    (message (letter (codes "m") 14)
    (tree.MailboxType (letter (codes "I") 16) Receiving (Some (tree.TagPattern (letter (codes "m") 18))) (span 16 19)
    ∷ tree.MailboxType (letter (codes "I") 21) Receiving (Some (tree.ZeroPattern (span 23 24))) (span 21 24)
    ∷ [])
    ∷ [])
    ∷ main_at 28 (unit_at 47)
    ∷ []

-- its program
abbrev pub received_payload_program : Program
received_payload_program = record {
  interfaces = record { name = codes "I"; tags = record { name = codes "m"; payloads = MailboxSort 0 Receiving (Some (Tag 0)) ∷ MailboxSort 0 Receiving (Some Zero) ∷ [] } ∷ [] } ∷ [];
  functions = record { name = codes "main"; params = []; result = BaseSort BaseUnit; vars = []; body = 0 } ∷ [];
  main = 0;
  nodes = node 0 (Plain BaseUnit) (Val (Literal UnitConst)) ∷ [];
}

-- def main(): Unit { let x = 2 in x ! m() }
abbrev pub base_target : Tree
base_target =
    main_at 0 (tree.LetTerm (Some (letter (codes "x") 23)) (int_at 27) (tree.SendTerm (letter (codes "x") 32) (letter (codes "m") 36) [] (span 32 39)) (span 19 39)) ∷ []

-- interface I { m() } and then def f(a: I?): Int { guard a : 0 { fail } } and main
abbrev pub bare_guard : Tree
bare_guard =
    tree.InterfaceDecl (letter (codes "I") 10) (message (letter (codes "m") 14) [] ∷ [])
    ∷ tree.DefDecl (letter (codes "f") 24) (record { name = letter (codes "a") 26; type = tree.MailboxType (letter (codes "I") 29) Receiving None (span 29 31) } ∷ []) (tree.BaseType BaseInt (span 34 37))
    (tree.GuardTerm (letter (codes "a") 46) (tree.ZeroPattern (span 50 51)) (tree.listed (tree.FailClause (span 54 58) ∷ [])) (span 40 60))
    ∷ main_at 63 (unit_at 82)
    ∷ []

-- def main(): Unit { let x = { let y = 2 in y } in print(x) }
abbrev pub inner_binder : Tree
inner_binder =
    main_at 0
    (tree.LetTerm (Some (letter (codes "x") 23))
    (tree.LetTerm (Some (letter (codes "y") 33)) (int_at 37) (var_at (codes "y") 42) (span 29 43))
    (tree.PrintTerm (tree.VarExpr (codes "x") (span 55 56)) (span 49 57)) (span 19 57))
    ∷ []

-- its program: the outer name has the lesser number
abbrev pub inner_binder_program : Program
inner_binder_program = record {
  interfaces = [];
  functions = record { name = codes "main"; params = []; result = BaseSort BaseUnit; vars = Plain BaseInt ∷ Plain BaseInt ∷ []; body = 0 } ∷ [];
  main = 0;
  nodes =
      node 0 (Plain BaseUnit) (Let (Some 0) 1 4)
      ∷ node 0 (Plain BaseInt) (Let (Some 1) 2 3)
      ∷ node 0 (Plain BaseInt) (Val (Literal (IntConst (pos 2))))
      ∷ node 0 (Plain BaseInt) (Val (VarExpr 1))
      ∷ node 0 (Plain BaseUnit) (Print (VarExpr 0))
      ∷ [];
}
