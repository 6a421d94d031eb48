-- Programs that are typable, and so safe, for forms of terms that the others lack: a choice, a mailbox that is given back, a
-- mailbox variable as a value, and a guard without clauses.
use Rattle.std.specs.Prelude.{[], ◌∷◌, Some, None, codes, pos}
use Rattle.pat_words_spec.specs.Patterns.{Zero, One, Tag}
use Rattle.pat_semantics_spec.specs.Values.{MailboxOf, IntConst, VarExpr, Literal, OpExpr, Less}
use Rattle.pat_semantics_spec.specs.Programs.{Program, Val, Let, Call, If, New, Send, Guard}
use Rattle.pat_examples.specs.safety.Build.{unit_node, mailbox_node, nothing, clause, tag, function, receiving}

-- a choice, whose branches use the same mailbox:
-- interface I { m() }
-- def main(): Unit { let a = new[I] in if (1 < 2) { a ! m(); guard a : m { receive m() from b -> free(b) } } else { free(a) } }
abbrev pub branches : Program
branches = record {
  interfaces = record { name = codes "I"; tags = tag (codes "m") [] ∷ [] } ∷ [];
  functions = function (codes "main") [] (MailboxOf 0 ∷ MailboxOf 0 ∷ []) 0 ∷ [];
  main = 0;
  nodes =
      unit_node 0 (Let (Some 0) 1 2)
      ∷ mailbox_node 0 0 (New 0)
      ∷ unit_node 0 (If (OpExpr Less (Literal (IntConst (pos 1))) (Literal (IntConst (pos 2)))) 3 8)
      ∷ unit_node 0 (Let None 4 5)
      ∷ unit_node 0 (Send 0 0 [])
      ∷ unit_node 0 (Guard 0 (Tag 0) None (clause 0 [] 1 6 ∷ []))
      ∷ unit_node 0 (Guard 1 One (Some 7) [])
      ∷ unit_node 0 nothing
      ∷ unit_node 0 (Guard 0 One (Some 9) [])
      ∷ unit_node 0 nothing
      ∷ [];
}

-- a function that gives back a mailbox, and a let that binds it:
-- interface I { m() }
-- def make(): I? { let a = new[I] in a ! m(); a }
-- def main(): Unit { let b = make() in guard b : m { receive m() from c -> free(c) } }
abbrev pub given : Program
given = record {
  interfaces = record { name = codes "I"; tags = tag (codes "m") [] ∷ [] } ∷ [];
  functions =
      record { name = codes "make"; params = []; result = receiving 0; vars = MailboxOf 0 ∷ []; body = 0 }
      ∷ function (codes "main") [] (MailboxOf 0 ∷ MailboxOf 0 ∷ []) 5
      ∷ [];
  main = 1;
  nodes =
      mailbox_node 0 0 (Let (Some 0) 1 2)
      ∷ mailbox_node 0 0 (New 0)
      ∷ mailbox_node 0 0 (Let None 3 4)
      ∷ unit_node 0 (Send 0 0 [])
      ∷ mailbox_node 0 0 (Val (VarExpr 0))
      ∷ unit_node 1 (Let (Some 0) 6 7)
      ∷ mailbox_node 1 0 (Call 0 [])
      ∷ unit_node 1 (Guard 0 (Tag 0) None (clause 0 [] 1 8 ∷ []))
      ∷ unit_node 1 (Guard 1 One (Some 9) [])
      ∷ unit_node 1 nothing
      ∷ [];
}

-- a let that binds the value of a mailbox variable:
-- interface I { m() }
-- def main(): Unit { let a = new[I] in let b = a in free(b) }
abbrev pub renamed : Program
renamed = record {
  interfaces = record { name = codes "I"; tags = tag (codes "m") [] ∷ [] } ∷ [];
  functions = function (codes "main") [] (MailboxOf 0 ∷ MailboxOf 0 ∷ []) 0 ∷ [];
  main = 0;
  nodes =
      unit_node 0 (Let (Some 0) 1 2)
      ∷ mailbox_node 0 0 (New 0)
      ∷ unit_node 0 (Let (Some 1) 3 4)
      ∷ mailbox_node 0 0 (Val (VarExpr 0))
      ∷ unit_node 0 (Guard 1 One (Some 5) [])
      ∷ unit_node 0 nothing
      ∷ [];
}

-- a guard without clauses, behind a message that never comes:
-- interface I { m(), n() }
-- def main(): Unit { let a = new[I] in a ! m(); guard a : m { receive m() from b -> free(b) receive n() from c -> guard c : 0 { fail } } }
abbrev pub impossible : Program
impossible = record {
  interfaces = record { name = codes "I"; tags = tag (codes "m") [] ∷ tag (codes "n") [] ∷ [] } ∷ [];
  functions = function (codes "main") [] (MailboxOf 0 ∷ MailboxOf 0 ∷ MailboxOf 0 ∷ []) 0 ∷ [];
  main = 0;
  nodes =
      unit_node 0 (Let (Some 0) 1 2)
      ∷ mailbox_node 0 0 (New 0)
      ∷ unit_node 0 (Let None 3 4)
      ∷ unit_node 0 (Send 0 0 [])
      ∷ unit_node 0 (Guard 0 (Tag 0) None (clause 0 [] 1 5 ∷ clause 1 [] 2 7 ∷ []))
      ∷ unit_node 0 (Guard 1 One (Some 6) [])
      ∷ unit_node 0 nothing
      ∷ unit_node 0 (Guard 2 Zero None [])
      ∷ [];
}
