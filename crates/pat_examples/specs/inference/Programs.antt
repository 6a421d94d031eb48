-- Programs in which a rule is broken, or whose constraints are written out.
use Rattle.std.specs.Prelude.{[], ◌∷◌, Some, None, codes, true, pos}
use Rattle.pat_words_spec.specs.Patterns.{One, Tag, Sum, Prod, Star}
use Rattle.pat_semantics_spec.specs.Values.{BaseInt, Plain, MailboxOf, BoolConst, IntConst, VarExpr, Literal}
use Rattle.pat_semantics_spec.specs.Programs.{Sending, MailboxSort, BaseSort, Program, Val, Let, Call, If, Print, New, Send, Spawn, Guard}
use Rattle.pat_examples.specs.safety.Build.{unit_node, mailbox_node, nothing, clause, tag, function, receiving, receiving_as, sending_as}
use Rattle.pat_examples.specs.inference.Build.{interface, function_to, program, one_tag}

-- interface I { m() }
-- def main(): Unit { let a = new[I] in guard a : m + 1 { receive m() from b -> free(b) } }
abbrev pub uncovered : Program
uncovered =
    program (one_tag ∷ []) (function (codes "main") [] (MailboxOf 0 ∷ MailboxOf 0 ∷ []) 0 ∷ []) 0
    (unit_node 0 (Let (Some 0) 1 2)
    ∷ mailbox_node 0 0 (New 0)
    ∷ unit_node 0 (Guard 0 (Sum (Tag 0) One) None (clause 0 [] 1 3 ∷ []))
    ∷ unit_node 0 (Guard 1 One (Some 4) [])
    ∷ unit_node 0 nothing
    ∷ [])

-- interface J { k() }
-- interface I { m(J!k) }
-- def f(a: I?): J!k { guard a : m { receive m(u) from b -> free(b); u } }
-- def main(): Unit { () }
abbrev pub handed_back : Program
handed_back =
    program (interface (codes "J") (tag (codes "k") [] ∷ []) ∷ interface (codes "I") (tag (codes "m") (sending_as 0 (Tag 0) ∷ []) ∷ []) ∷ [])
    (function_to (sending_as 0 (Tag 0)) (codes "f") (receiving 1 ∷ []) (MailboxOf 1 ∷ MailboxOf 0 ∷ MailboxOf 1 ∷ []) 0
    ∷ function (codes "main") [] [] 5
    ∷ [])
    1
    (mailbox_node 0 0 (Guard 0 (Tag 0) None (clause 0 (1 ∷ []) 2 1 ∷ []))
    ∷ mailbox_node 0 0 (Let None 2 4)
    ∷ unit_node 0 (Guard 2 One (Some 3) [])
    ∷ unit_node 0 nothing
    ∷ mailbox_node 0 0 (Val (VarExpr 1))
    ∷ unit_node 1 nothing
    ∷ [])

-- the same with def f(a: I?): Unit { guard a : m { receive m(u) from b -> free(b); spawn { u ! k() } } }
abbrev pub spawned_on : Program
spawned_on =
    program (interface (codes "J") (tag (codes "k") [] ∷ []) ∷ interface (codes "I") (tag (codes "m") (sending_as 0 (Tag 0) ∷ []) ∷ []) ∷ [])
    (function (codes "f") (receiving 1 ∷ []) (MailboxOf 1 ∷ MailboxOf 0 ∷ MailboxOf 1 ∷ []) 0
    ∷ function (codes "main") [] [] 6
    ∷ [])
    1
    (unit_node 0 (Guard 0 (Tag 0) None (clause 0 (1 ∷ []) 2 1 ∷ []))
    ∷ unit_node 0 (Let None 2 4)
    ∷ unit_node 0 (Guard 2 One (Some 3) [])
    ∷ unit_node 0 nothing
    ∷ unit_node 0 (Spawn 5)
    ∷ unit_node 0 (Send 1 0 [])
    ∷ unit_node 1 nothing
    ∷ [])

-- interface I { m() }
-- def main(): Unit { let a = new[I] in if true { free(a) } else { () } }
abbrev pub freed_once : Program
freed_once =
    program (one_tag ∷ []) (function (codes "main") [] (MailboxOf 0 ∷ []) 0 ∷ []) 0
    (unit_node 0 (Let (Some 0) 1 2)
    ∷ mailbox_node 0 0 (New 0)
    ∷ unit_node 0 (If (Literal (BoolConst true)) 3 5)
    ∷ unit_node 0 (Guard 0 One (Some 4) [])
    ∷ unit_node 0 nothing
    ∷ unit_node 0 nothing
    ∷ [])

-- interface I { m(I!1) }
-- def main(): Unit { let a = new[I] in a ! m(a); free(a) }
abbrev pub sent_to_itself : Program
sent_to_itself =
    program (interface (codes "I") (tag (codes "m") (sending_as 0 One ∷ []) ∷ []) ∷ []) (function (codes "main") [] (MailboxOf 0 ∷ []) 0 ∷ []) 0
    (unit_node 0 (Let (Some 0) 1 2)
    ∷ mailbox_node 0 0 (New 0)
    ∷ unit_node 0 (Let None 3 4)
    ∷ unit_node 0 (Send 0 0 (VarExpr 0 ∷ []))
    ∷ unit_node 0 (Guard 0 One (Some 5) [])
    ∷ unit_node 0 nothing
    ∷ [])

-- interface I { m() }
-- interface D { take(I?m) }
-- def host(d: D?): Unit { guard d : take { receive take(u) from d -> free(d) } }
-- def main(): Unit { () }
abbrev pub left_aside : Program
left_aside =
    program (one_tag ∷ interface (codes "D") (tag (codes "take") (receiving_as 0 (Tag 0) ∷ []) ∷ []) ∷ [])
    (function (codes "host") (receiving 1 ∷ []) (MailboxOf 1 ∷ MailboxOf 0 ∷ MailboxOf 1 ∷ []) 0
    ∷ function (codes "main") [] [] 3
    ∷ [])
    1
    (unit_node 0 (Guard 0 (Tag 0) None (clause 0 (1 ∷ []) 2 1 ∷ []))
    ∷ unit_node 0 (Guard 2 One (Some 2) [])
    ∷ unit_node 0 nothing
    ∷ unit_node 1 nothing
    ∷ [])

-- interface I { m(), n() }
-- def f(a: I?*(m.n)): Unit { g(a) }
-- def g(a: I?*m.*n): Unit { g(a) }
-- def main(): Unit { () }
abbrev pub in_pairs : Program
in_pairs =
    program (interface (codes "I") (tag (codes "m") [] ∷ tag (codes "n") [] ∷ []) ∷ [])
    (function (codes "f") (receiving_as 0 (Star (Prod (Tag 0) (Tag 1))) ∷ []) (MailboxOf 0 ∷ []) 0
    ∷ function (codes "g") (receiving_as 0 (Prod (Star (Tag 0)) (Star (Tag 1))) ∷ []) (MailboxOf 0 ∷ []) 1
    ∷ function (codes "main") [] [] 2
    ∷ [])
    2
    (unit_node 0 (Call 1 (VarExpr 0 ∷ []))
    ∷ unit_node 1 (Call 1 (VarExpr 0 ∷ []))
    ∷ unit_node 2 nothing
    ∷ [])

-- interface I { m() }
-- def f(a: I?*m): Unit { g(a) }
-- def g(a: I?1 + m.*m): Unit { g(a) }
-- def main(): Unit { () }
abbrev pub unrolled : Program
unrolled =
    program (one_tag ∷ [])
    (function (codes "f") (receiving_as 0 (Star (Tag 0)) ∷ []) (MailboxOf 0 ∷ []) 0
    ∷ function (codes "g") (receiving_as 0 (Sum One (Prod (Tag 0) (Star (Tag 0)))) ∷ []) (MailboxOf 0 ∷ []) 1
    ∷ function (codes "main") [] [] 2
    ∷ [])
    2
    (unit_node 0 (Call 1 (VarExpr 0 ∷ []))
    ∷ unit_node 1 (Call 1 (VarExpr 0 ∷ []))
    ∷ unit_node 2 nothing
    ∷ [])

-- interface Cell { Put(Int) }
-- def cell(c: Cell?): Unit { guard c : Put { receive Put(x) from c -> free(c); print(x) } }
-- def main(): Unit { let c = new[Cell] in spawn { cell(c) }; c ! Put(1); c ! Put(2) }
abbrev pub put_twice : Program
put_twice =
    program (interface (codes "Cell") (tag (codes "Put") (BaseSort BaseInt ∷ []) ∷ []) ∷ [])
    (function (codes "cell") (receiving 0 ∷ []) (MailboxOf 0 ∷ Plain BaseInt ∷ MailboxOf 0 ∷ []) 0
    ∷ function (codes "main") [] (MailboxOf 0 ∷ []) 5
    ∷ [])
    1
    (unit_node 0 (Guard 0 (Tag 0) None (clause 0 (1 ∷ []) 2 1 ∷ []))
    ∷ unit_node 0 (Let None 2 4)
    ∷ unit_node 0 (Guard 2 One (Some 3) [])
    ∷ unit_node 0 nothing
    ∷ unit_node 0 (Print (VarExpr 1))
    ∷ unit_node 1 (Let (Some 0) 6 7)
    ∷ mailbox_node 1 0 (New 0)
    ∷ unit_node 1 (Let None 8 10)
    ∷ unit_node 1 (Spawn 9)
    ∷ unit_node 1 (Call 0 (VarExpr 0 ∷ []))
    ∷ unit_node 1 (Let None 11 12)
    ∷ unit_node 1 (Send 0 0 (Literal (IntConst (pos 1)) ∷ []))
    ∷ unit_node 1 (Send 0 0 (Literal (IntConst (pos 2)) ∷ []))
    ∷ [])

-- interface User { Reply(Int) }
-- interface F { Get(User!Reply) }
-- def f(self: F?): Unit { guard self : Get { receive Get(u) from self -> free(self) } }
-- def main(): Unit { () }
abbrev pub unanswered : Program
unanswered =
    program (interface (codes "User") (tag (codes "Reply") (BaseSort BaseInt ∷ []) ∷ []) ∷ interface (codes "F") (tag (codes "Get") (sending_as 0 (Tag 0) ∷ []) ∷ []) ∷ [])
    (function (codes "f") (receiving 1 ∷ []) (MailboxOf 1 ∷ MailboxOf 0 ∷ MailboxOf 1 ∷ []) 0
    ∷ function (codes "main") [] [] 3
    ∷ [])
    1
    (unit_node 0 (Guard 0 (Tag 0) None (clause 0 (1 ∷ []) 2 1 ∷ []))
    ∷ unit_node 0 (Guard 2 One (Some 2) [])
    ∷ unit_node 0 nothing
    ∷ unit_node 1 nothing
    ∷ [])

-- interface J { k() }
-- def f(): J! { let x = new[J] in spawn { g(x) }; x }
-- def g(x: J?): Unit { guard x : *k { free -> () receive k() from y -> g(y) } }
-- def main(): Unit { () }
abbrev pub asked_by_nobody : Program
asked_by_nobody =
    program (interface (codes "J") (tag (codes "k") [] ∷ []) ∷ [])
    (function_to (MailboxSort 0 Sending None) (codes "f") [] (MailboxOf 0 ∷ []) 0
    ∷ function (codes "g") (receiving 0 ∷ []) (MailboxOf 0 ∷ MailboxOf 0 ∷ []) 6
    ∷ function (codes "main") [] [] 9
    ∷ [])
    2
    (mailbox_node 0 0 (Let (Some 0) 1 2)
    ∷ mailbox_node 0 0 (New 0)
    ∷ mailbox_node 0 0 (Let None 3 5)
    ∷ unit_node 0 (Spawn 4)
    ∷ unit_node 0 (Call 1 (VarExpr 0 ∷ []))
    ∷ mailbox_node 0 0 (Val (VarExpr 0))
    ∷ unit_node 1 (Guard 0 (Star (Tag 0)) (Some 7) (clause 0 [] 1 8 ∷ []))
    ∷ unit_node 1 nothing
    ∷ unit_node 1 (Call 1 (VarExpr 1 ∷ []))
    ∷ unit_node 2 nothing
    ∷ [])
