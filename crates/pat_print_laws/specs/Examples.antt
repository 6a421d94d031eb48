-- Trees whose canonical text is known.
use Rattle.std.specs.Prelude.{ℕ, List, [], ◌∷◌, Some, None, codes}
use Rattle.pat_semantics_spec.specs.Values.{BaseUnit, BaseInt, BaseText, Add, Sub, Mul}
use Rattle.pat_semantics_spec.specs.Programs.{Sending, Receiving}
use Rattle.pat_parser_spec.specs.Trees.{Name, TagPattern, SumPattern, ProdPattern, StarPattern, BaseType, MailboxType, Expr, VarExpr, UnitExpr, StrExpr, OpExpr, LetTerm, PrintTerm, NewTerm, FreeTerm, GuardTerm, SendTerm, ValueTerm, FailClause, FreeClause, ReceiveClause, no_clauses, with_clause, InterfaceDecl, DefDecl, Tree}
use Rattle.pat_print_spec.specs.Bare.{nowhere}

abbrev name : List ℕ → Name
name x = record { text = x; span = nowhere }

abbrev value : List ℕ → Expr
value x = VarExpr x nowhere

-- a sum under a product, and a difference on the right of a difference
abbrev pub brackets_tree : Tree
brackets_tree = DefDecl (name (codes "main")) [] (BaseType BaseUnit nowhere)
    (LetTerm None (PrintTerm (OpExpr Mul (OpExpr Add (value (codes "a")) (value (codes "b")) nowhere) (value (codes "c")) nowhere) nowhere)
    (PrintTerm (OpExpr Sub (OpExpr Sub (value (codes "d")) (value (codes "b")) nowhere) (OpExpr Sub (value (codes "c")) (value (codes "a")) nowhere) nowhere) nowhere) nowhere) ∷ []

abbrev pub brackets_text : List ℕ
brackets_text = codes "def main(): Unit { print((a + b) * c); print(d - b - (c - a)) }\n"

abbrev pub messages_tree : Tree
messages_tree =
    InterfaceDecl (name (codes "I")) (record { name = name (codes "m"); payloads = [] } ∷ record { name = name (codes "n"); payloads = BaseType BaseInt nowhere ∷ MailboxType (name (codes "J")) Sending (Some (TagPattern (name (codes "e")))) nowhere ∷ MailboxType (name (codes "J")) Receiving (Some (TagPattern (name (codes "e")))) nowhere ∷ [] } ∷ [])
    ∷ DefDecl (name (codes "f")) (record { name = name (codes "a"); type = MailboxType (name (codes "I")) Receiving None nowhere } ∷ record { name = name (codes "b"); type = BaseType BaseText nowhere } ∷ []) (BaseType BaseUnit nowhere)
    (GuardTerm (name (codes "a")) (SumPattern (ProdPattern (TagPattern (name (codes "m"))) (StarPattern (SumPattern (TagPattern (name (codes "n"))) (TagPattern (name (codes "k")))))) (TagPattern (name (codes "k"))))
    (with_clause (FailClause nowhere)
    (with_clause (FreeClause nowhere (LetTerm None (LetTerm (Some (name (codes "x"))) (NewTerm (name (codes "I")) nowhere) (FreeTerm (name (codes "x")) nowhere) nowhere) (ValueTerm (UnitExpr nowhere) nowhere) nowhere))
    (with_clause (ReceiveClause nowhere (name (codes "n")) (name (codes "x") ∷ name (codes "y") ∷ []) (name (codes "z")) (SendTerm (name (codes "y")) (name (codes "e")) (StrExpr (codes "a\"b\\") nowhere ∷ UnitExpr nowhere ∷ []) nowhere)) no_clauses))) nowhere) ∷ []

abbrev pub messages_text : List ℕ
messages_text = codes "interface I { m(), n(Int, J!e, J?e) }\ndef f(a: I?, b: String): Unit { guard a : m.*(n + k) + k { fail free -> { let x = new[I] in free(x) }; () receive n(x, y) from z -> y ! e(\"a\\\"b\\\\\", ()) } }\n"
