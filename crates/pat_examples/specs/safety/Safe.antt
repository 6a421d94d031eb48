-- Programs that are typable, and so safe.
use Rattle.std.specs.Prelude.{◌≡◌, ℕ, List, [], ◌∷◌, Option, Some, None, codes, map, pos}
use Rattle.pat_words_spec.specs.Patterns.{One, Tag, Prod, Star}
use Rattle.pat_semantics_spec.specs.Values.{MailboxOf, IntConst, VarExpr, Literal, BaseInt}
use Rattle.pat_semantics_spec.specs.Programs.{BaseSort, Program, Let, Call, Print, New, Send, Spawn, Guard}
use Rattle.pat_semantics_spec.specs.Configs.{Config}
use Rattle.pat_semantics_spec.specs.Steps.{ActNew, ActSend, ActSpawn, ActPrint, ActEnd, ActFree, ActReceive}
use Rattle.pat_semantics_spec.specs.Runs.{Entry, replay, outcome, step_count, Outcome}
use Rattle.pat_examples.specs.safety.Build.{unit_node, mailbox_node, nothing, clause, tag, function, receiving, receiving_as, sending_as, int, entry}

-- interface I { m() }
-- def main(): Unit { let a = new[I] in a ! m(); guard a : m { receive m() from b -> free(b) } }
abbrev pub one_message : Program
one_message = record {
  interfaces = record { name = codes "I"; tags = tag (codes "m") [] ∷ [] } ∷ [];
  functions = function (codes "main") [] (MailboxOf 0 ∷ MailboxOf 0 ∷ []) 0 ∷ [];
  main = 0;
  nodes =
      unit_node 0 (Let (Some 0) 1 2)
      ∷ mailbox_node 0 0 (New 0)
      ∷ unit_node 0 (Let None 3 4)
      ∷ unit_node 0 (Send 0 0 [])
      ∷ unit_node 0 (Guard 0 (Tag 0) None (clause 0 [] 1 5 ∷ []))
      ∷ unit_node 0 (Guard 1 One (Some 6) [])
      ∷ unit_node 0 nothing
      ∷ [];
}

-- interface Future { Put(Int), Get(User!Reply) }
-- interface User { Reply(Int) }
-- def future(self: Future?): Unit { guard self : Put.*Get { receive Put(x) from self -> resolved(self, x) } }
-- def resolved(self: Future?, x: Int): Unit { guard self : *Get { free -> () receive Get(user) from self -> user ! Reply(x); resolved(self, x) } }
-- def client(): Unit { let f = new[Future] in spawn { future(f) }; let me = new[User] in spawn { f ! Put(5) }; f ! Get(me); guard me : Reply { receive Reply(x) from me -> free(me); print(x) } }
-- def main(): Unit { client() }
abbrev pub future : Program
future = record {
  interfaces =
      record { name = codes "Future"; tags = tag (codes "Put") (BaseSort BaseInt ∷ []) ∷ tag (codes "Get") (sending_as 1 (Tag 0) ∷ []) ∷ [] }
      ∷ record { name = codes "User"; tags = tag (codes "Reply") (BaseSort BaseInt ∷ []) ∷ [] }
      ∷ [];
  functions =
      function (codes "future") (receiving 0 ∷ []) (MailboxOf 0 ∷ int ∷ MailboxOf 0 ∷ []) 0
      ∷ function (codes "resolved") (receiving 0 ∷ BaseSort BaseInt ∷ []) (MailboxOf 0 ∷ int ∷ MailboxOf 1 ∷ MailboxOf 0 ∷ []) 2
      ∷ function (codes "client") [] (MailboxOf 0 ∷ MailboxOf 1 ∷ int ∷ MailboxOf 1 ∷ []) 7
      ∷ function (codes "main") [] [] 24
      ∷ [];
  main = 3;
  nodes =
      unit_node 0 (Guard 0 (Prod (Tag 0) (Star (Tag 1))) None (clause 0 (1 ∷ []) 2 1 ∷ []))
      ∷ unit_node 0 (Call 1 (VarExpr 2 ∷ VarExpr 1 ∷ []))
      ∷ unit_node 1 (Guard 0 (Star (Tag 1)) (Some 3) (clause 1 (2 ∷ []) 3 4 ∷ []))
      ∷ unit_node 1 nothing
      ∷ unit_node 1 (Let None 5 6)
      ∷ unit_node 1 (Send 2 0 (VarExpr 1 ∷ []))
      ∷ unit_node 1 (Call 1 (VarExpr 3 ∷ VarExpr 1 ∷ []))
      ∷ unit_node 2 (Let (Some 0) 8 9)
      ∷ mailbox_node 2 0 (New 0)
      ∷ unit_node 2 (Let None 10 12)
      ∷ unit_node 2 (Spawn 11)
      ∷ unit_node 2 (Call 0 (VarExpr 0 ∷ []))
      ∷ unit_node 2 (Let (Some 1) 13 14)
      ∷ mailbox_node 2 1 (New 1)
      ∷ unit_node 2 (Let None 15 17)
      ∷ unit_node 2 (Spawn 16)
      ∷ unit_node 2 (Send 0 0 (Literal (IntConst (pos 5)) ∷ []))
      ∷ unit_node 2 (Let None 18 19)
      ∷ unit_node 2 (Send 0 1 (VarExpr 1 ∷ []))
      ∷ unit_node 2 (Guard 1 (Tag 0) None (clause 0 (2 ∷ []) 3 20 ∷ []))
      ∷ unit_node 2 (Let None 21 23)
      ∷ unit_node 2 (Guard 3 One (Some 22) [])
      ∷ unit_node 2 nothing
      ∷ unit_node 2 (Print (VarExpr 2))
      ∷ unit_node 3 (Call 2 [])
      ∷ [];
}

-- a history of it
abbrev pub future_history : List Entry
future_history =
    entry 0 2 (Some ActNew)
    ∷ entry 0 2 (Some ActSpawn)
    ∷ entry 1 1 None
    ∷ entry 0 2 (Some ActNew)
    ∷ entry 0 2 (Some ActSpawn)
    ∷ entry 2 0 (Some ActSend)
    ∷ entry 0 2 (Some ActSend)
    ∷ entry 1 0 (Some (ActReceive 0))
    ∷ entry 2 0 (Some ActEnd)
    ∷ entry 0 1 None
    ∷ entry 1 1 (Some (ActReceive 1))
    ∷ entry 1 1 (Some ActSend)
    ∷ entry 0 0 (Some (ActReceive 2))
    ∷ entry 1 2 (Some ActFree)
    ∷ entry 0 1 (Some ActFree)
    ∷ entry 1 0 (Some ActEnd)
    ∷ entry 0 1 (Some ActPrint)
    ∷ entry 0 0 (Some ActEnd)
    ∷ []

-- interface I { m() }
-- def pump(a: I!*m): Unit { a ! m(); pump(a) }
-- def drain(a: I?): Unit { guard a : *m { free -> () receive m() from b -> drain(b) } }
-- def main(): Unit { let a = new[I] in spawn { drain(a) }; pump(a) }
abbrev pub pump : Program
pump = record {
  interfaces = record { name = codes "I"; tags = tag (codes "m") [] ∷ [] } ∷ [];
  functions =
      function (codes "pump") (sending_as 0 (Star (Tag 0)) ∷ []) (MailboxOf 0 ∷ []) 0
      ∷ function (codes "drain") (receiving 0 ∷ []) (MailboxOf 0 ∷ MailboxOf 0 ∷ []) 3
      ∷ function (codes "main") [] (MailboxOf 0 ∷ []) 6
      ∷ [];
  main = 2;
  nodes =
      unit_node 0 (Let None 1 2)
      ∷ unit_node 0 (Send 0 0 [])
      ∷ unit_node 0 (Call 0 (VarExpr 0 ∷ []))
      ∷ unit_node 1 (Guard 0 (Star (Tag 0)) (Some 4) (clause 0 [] 1 5 ∷ []))
      ∷ unit_node 1 nothing
      ∷ unit_node 1 (Call 1 (VarExpr 1 ∷ []))
      ∷ unit_node 2 (Let (Some 0) 7 8)
      ∷ mailbox_node 2 0 (New 0)
      ∷ unit_node 2 (Let None 9 11)
      ∷ unit_node 2 (Spawn 10)
      ∷ unit_node 2 (Call 1 (VarExpr 0 ∷ []))
      ∷ unit_node 2 (Call 0 (VarExpr 0 ∷ []))
      ∷ [];
}

-- interface I { m() }
-- interface D { take(I?*m) }
-- def serve(a: I?): Unit { guard a : *m { free -> () receive m() from b -> serve(b) } }
-- def host(d: D?): Unit { guard d : take { receive take(u) from d -> free(d); spawn { serve(u) } } }
-- def main(): Unit { let d = new[D] in spawn { host(d) }; let a = new[I] in d ! take(a); a ! m() }
abbrev pub delegation : Program
delegation = record {
  interfaces =
      record { name = codes "I"; tags = tag (codes "m") [] ∷ [] }
      ∷ record { name = codes "D"; tags = tag (codes "take") (receiving_as 0 (Star (Tag 0)) ∷ []) ∷ [] }
      ∷ [];
  functions =
      function (codes "serve") (receiving 0 ∷ []) (MailboxOf 0 ∷ MailboxOf 0 ∷ []) 0
      ∷ function (codes "host") (receiving 1 ∷ []) (MailboxOf 1 ∷ MailboxOf 0 ∷ MailboxOf 1 ∷ []) 3
      ∷ function (codes "main") [] (MailboxOf 1 ∷ MailboxOf 0 ∷ []) 9
      ∷ [];
  main = 2;
  nodes =
      unit_node 0 (Guard 0 (Star (Tag 0)) (Some 1) (clause 0 [] 1 2 ∷ []))
      ∷ unit_node 0 nothing
      ∷ unit_node 0 (Call 0 (VarExpr 1 ∷ []))
      ∷ unit_node 1 (Guard 0 (Tag 0) None (clause 0 (1 ∷ []) 2 4 ∷ []))
      ∷ unit_node 1 (Let None 5 7)
      ∷ unit_node 1 (Guard 2 One (Some 6) [])
      ∷ unit_node 1 nothing
      ∷ unit_node 1 (Spawn 8)
      ∷ unit_node 1 (Call 0 (VarExpr 1 ∷ []))
      ∷ unit_node 2 (Let (Some 0) 10 11)
      ∷ mailbox_node 2 1 (New 1)
      ∷ unit_node 2 (Let None 12 14)
      ∷ unit_node 2 (Spawn 13)
      ∷ unit_node 2 (Call 1 (VarExpr 0 ∷ []))
      ∷ unit_node 2 (Let (Some 1) 15 16)
      ∷ mailbox_node 2 0 (New 0)
      ∷ unit_node 2 (Let None 17 18)
      ∷ unit_node 2 (Send 0 0 (VarExpr 1 ∷ []))
      ∷ unit_node 2 (Send 1 0 [])
      ∷ [];
}

-- two mailboxes, each of which is handed over by a message that is pending in the other:
-- interface X { m(X?m) }
-- def main(): Unit { let a = new[X] in let b = new[X] in a ! m(b); b ! m(a) }
abbrev pub swap : Program
swap = record {
  interfaces = record { name = codes "X"; tags = tag (codes "m") (receiving_as 0 (Tag 0) ∷ []) ∷ [] } ∷ [];
  functions = function (codes "main") [] (MailboxOf 0 ∷ MailboxOf 0 ∷ []) 0 ∷ [];
  main = 0;
  nodes =
      unit_node 0 (Let (Some 0) 1 2)
      ∷ mailbox_node 0 0 (New 0)
      ∷ unit_node 0 (Let (Some 1) 3 4)
      ∷ mailbox_node 0 0 (New 0)
      ∷ unit_node 0 (Let None 5 6)
      ∷ unit_node 0 (Send 0 0 (VarExpr 1 ∷ []))
      ∷ unit_node 0 (Send 1 0 (VarExpr 0 ∷ []))
      ∷ [];
}

-- a history of it
abbrev pub swap_history : List Entry
swap_history =
    entry 0 1 (Some ActNew) ∷ entry 0 2 (Some ActNew) ∷ entry 0 2 (Some ActSend) ∷ entry 0 1 (Some ActSend) ∷ entry 0 0 (Some ActEnd) ∷ []

-- two threads that wait for one another:
-- interface I { m() }
-- def wait(a: I?, b: I!m): Unit { guard a : m { receive m() from c -> free(c); b ! m() } }
-- def main(): Unit { let a = new[I] in let b = new[I] in spawn { wait(a, b) }; spawn { wait(b, a) } }
abbrev pub crossed : Program
crossed = record {
  interfaces = record { name = codes "I"; tags = tag (codes "m") [] ∷ [] } ∷ [];
  functions =
      function (codes "wait") (receiving 0 ∷ sending_as 0 (Tag 0) ∷ []) (MailboxOf 0 ∷ MailboxOf 0 ∷ MailboxOf 0 ∷ []) 0
      ∷ function (codes "main") [] (MailboxOf 0 ∷ MailboxOf 0 ∷ []) 5
      ∷ [];
  main = 1;
  nodes =
      unit_node 0 (Guard 0 (Tag 0) None (clause 0 [] 2 1 ∷ []))
      ∷ unit_node 0 (Let None 2 4)
      ∷ unit_node 0 (Guard 2 One (Some 3) [])
      ∷ unit_node 0 nothing
      ∷ unit_node 0 (Send 1 0 [])
      ∷ unit_node 1 (Let (Some 0) 6 7)
      ∷ mailbox_node 1 0 (New 0)
      ∷ unit_node 1 (Let (Some 1) 8 9)
      ∷ mailbox_node 1 0 (New 0)
      ∷ unit_node 1 (Let None 10 12)
      ∷ unit_node 1 (Spawn 11)
      ∷ unit_node 1 (Call 0 (VarExpr 0 ∷ VarExpr 1 ∷ []))
      ∷ unit_node 1 (Spawn 13)
      ∷ unit_node 1 (Call 0 (VarExpr 1 ∷ VarExpr 0 ∷ []))
      ∷ [];
}

-- a history of it
abbrev pub crossed_history : List Entry
crossed_history =
    entry 0 1 (Some ActNew)
    ∷ entry 0 2 (Some ActNew)
    ∷ entry 0 2 (Some ActSpawn)
    ∷ entry 1 1 None
    ∷ entry 0 1 (Some ActSpawn)
    ∷ entry 2 1 None
    ∷ entry 0 0 (Some ActEnd)
    ∷ []

-- messages that come in another order than they are received:
-- interface I { m(), n() }
-- def main(): Unit { let a = new[I] in a ! n(); a ! m(); guard a : m.n { receive m() from b -> guard b : n { receive n() from c -> free(c) } } }
abbrev pub turned : Program
turned = record {
  interfaces = record { name = codes "I"; tags = tag (codes "m") [] ∷ tag (codes "n") [] ∷ [] } ∷ [];
  functions = function (codes "main") [] (MailboxOf 0 ∷ MailboxOf 0 ∷ MailboxOf 0 ∷ []) 0 ∷ [];
  main = 0;
  nodes =
      unit_node 0 (Let (Some 0) 1 2)
      ∷ mailbox_node 0 0 (New 0)
      ∷ unit_node 0 (Let None 3 4)
      ∷ unit_node 0 (Send 0 1 [])
      ∷ unit_node 0 (Let None 5 6)
      ∷ unit_node 0 (Send 0 0 [])
      ∷ unit_node 0 (Guard 0 (Prod (Tag 0) (Tag 1)) None (clause 0 [] 1 7 ∷ []))
      ∷ unit_node 0 (Guard 1 (Tag 1) None (clause 1 [] 2 8 ∷ []))
      ∷ unit_node 0 (Guard 2 One (Some 9) [])
      ∷ unit_node 0 nothing
      ∷ [];
}

-- a history of it
abbrev pub turned_history : List Entry
turned_history =
    entry 0 1 (Some ActNew)
    ∷ entry 0 2 (Some ActSend)
    ∷ entry 0 2 (Some ActSend)
    ∷ entry 0 1 (Some (ActReceive 1))
    ∷ entry 0 0 (Some (ActReceive 0))
    ∷ entry 0 0 (Some ActFree)
    ∷ entry 0 0 (Some ActEnd)
    ∷ []

-- a history of it up to the second send
abbrev pub turned_start : List Entry
turned_start = entry 0 1 (Some ActNew) ∷ entry 0 2 (Some ActSend) ∷ entry 0 2 None ∷ []

-- the history ends so under this limit on messages, with so many steps, these lines, these live mailboxes and these threads
pub record EndsAs (p : Program) (es : List Entry) (limit : Option ℕ) (steps : ℕ) (end : Outcome) (printed : List (List ℕ)) (live threads : List ℕ) : Type 0 where
  pub count : step_count es ≡ steps
  pub last : Config
  pub leads : replay p es ≡ Some last
  pub ends : outcome p last (step_count es) 100 limit ≡ Some end
  pub lines : last.printed ≡ printed
  pub left : last.live ≡ live
  pub remain : map (λ e. e.0) last.threads ≡ threads
