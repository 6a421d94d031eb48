-- Programs.
use Rattle.std.specs.Prelude.{[], ◌∷◌, Some, None, codes}
use Rattle.pat_words_spec.specs.Patterns.{Pat, One, Tag, Sum, Prod, Star}
use Rattle.pat_semantics_spec.specs.Values.{MailboxOf, VarExpr}
use Rattle.pat_semantics_spec.specs.Programs.{Sending, MailboxSort, Program, Let, Call, New, Send, Guard}
use Rattle.pat_examples.specs.safety.Build.{unit_node, mailbox_node, nothing, clause, tag, function, receiving, receiving_as, sending_as}
use Rattle.pat_examples.specs.derivations.Build.{interface}

-- interface I { m(), n() }
-- def f(a: I?E): Unit { g(a) }
-- def g(a: I?F): Unit { g(a) }
-- def main(): Unit { () }
abbrev pub handing_on : Pat → Pat → Program
handing_on e f = record {
  interfaces = interface (codes "I") (tag (codes "m") [] ∷ tag (codes "n") [] ∷ []) ∷ [];
  functions =
      function (codes "f") (receiving_as 0 e ∷ []) (MailboxOf 0 ∷ []) 0
      ∷ function (codes "g") (receiving_as 0 f ∷ []) (MailboxOf 0 ∷ []) 1
      ∷ function (codes "main") [] [] 2
      ∷ [];
  main = 2;
  nodes = unit_node 0 (Call 1 (VarExpr 0 ∷ [])) ∷ unit_node 1 (Call 1 (VarExpr 0 ∷ [])) ∷ unit_node 2 nothing ∷ [];
}

-- the same with E = *(m.n) and F = *m.*n
abbrev pub pairs : Pat
pairs = Star (Prod (Tag 0) (Tag 1))

abbrev pub apart : Pat
apart = Prod (Star (Tag 0)) (Star (Tag 1))

-- the same with one tag, E = *m and F = 1 + m.*m
abbrev pub one_tag : Pat → Pat → Program
one_tag e f = record (handing_on e f) { interfaces = interface (codes "I") (tag (codes "m") [] ∷ []) ∷ [] }

abbrev pub any : Pat
any = Star (Tag 0)

abbrev pub some_or_none : Pat
some_or_none = Sum One (Prod (Tag 0) (Star (Tag 0)))

-- the same with `h(a)` as the body of g, and a further function whose parameter has no pattern:
-- def f(a: I?*m): Unit { g(a) }
-- def g(a: I?1 + m.*m): Unit { h(a) }
-- def h(a: I?): Unit { h(a) }
-- def main(): Unit { () }
abbrev pub with_grid : Program
with_grid = record {
  interfaces = interface (codes "I") (tag (codes "m") [] ∷ []) ∷ [];
  functions =
      function (codes "f") (receiving_as 0 any ∷ []) (MailboxOf 0 ∷ []) 0
      ∷ function (codes "g") (receiving_as 0 some_or_none ∷ []) (MailboxOf 0 ∷ []) 1
      ∷ function (codes "h") (receiving 0 ∷ []) (MailboxOf 0 ∷ []) 2
      ∷ function (codes "main") [] [] 3
      ∷ [];
  main = 3;
  nodes =
      unit_node 0 (Call 1 (VarExpr 0 ∷ []))
      ∷ unit_node 1 (Call 2 (VarExpr 0 ∷ []))
      ∷ unit_node 2 (Call 2 (VarExpr 0 ∷ []))
      ∷ unit_node 3 nothing
      ∷ [];
}

-- a guard that names a tag or nothing, without a free clause:
-- interface I { m() }
-- def main(): Unit { let a = new[I] in guard a : m + 1 { receive m() from b -> free(b) } }
abbrev pub uncovered : Program
uncovered = record {
  interfaces = interface (codes "I") (tag (codes "m") [] ∷ []) ∷ [];
  functions = function (codes "main") [] (MailboxOf 0 ∷ MailboxOf 0 ∷ []) 0 ∷ [];
  main = 0;
  nodes =
      unit_node 0 (Let (Some 0) 1 2)
      ∷ mailbox_node 0 0 (New 0)
      ∷ unit_node 0 (Guard 0 (Sum (Tag 0) One) None (clause 0 [] 1 3 ∷ []))
      ∷ unit_node 0 (Guard 1 One (Some 4) [])
      ∷ unit_node 0 nothing
      ∷ [];
}

-- a function of which nothing may be sent:
-- interface I { m() }
-- def f(a: I!): Unit { f(a) }
-- def main(): Unit { () }
abbrev pub sends_on : Program
sends_on = record {
  interfaces = interface (codes "I") (tag (codes "m") [] ∷ []) ∷ [];
  functions = function (codes "f") (MailboxSort 0 Sending None ∷ []) (MailboxOf 0 ∷ []) 0 ∷ function (codes "main") [] [] 1 ∷ [];
  main = 1;
  nodes = unit_node 0 (Call 0 (VarExpr 0 ∷ [])) ∷ unit_node 1 nothing ∷ [];
}

-- a function that sends twice:
-- interface I { m() }
-- def f(a: I!m.m): Unit { a ! m(); a ! m() }
-- def main(): Unit { () }
abbrev pub sends_twice : Program
sends_twice = record {
  interfaces = interface (codes "I") (tag (codes "m") [] ∷ []) ∷ [];
  functions = function (codes "f") (sending_as 0 (Prod (Tag 0) (Tag 0)) ∷ []) (MailboxOf 0 ∷ []) 0 ∷ function (codes "main") [] [] 3 ∷ [];
  main = 1;
  nodes = unit_node 0 (Let None 1 2) ∷ unit_node 0 (Send 0 0 []) ∷ unit_node 0 (Send 0 0 []) ∷ unit_node 1 nothing ∷ [];
}
