-- How the tokens read so far make up the state of the machine. In each relation all tokens come first, and then those that are left.
use Rattle.std.proofs.Common.{◌≡◌, ℕ, suc, ◌+◌, Bool, true, false, List, [], ◌∷◌, Option, Some, None}
use Rattle.std.specs.Prelude.{not}
use Rattle.pat_lexer_spec.specs.Words as word
use Rattle.pat_lexer_spec.specs.Marks as mark
use Rattle.pat_lexer_spec.specs.Tokens.{Token, Name, Word, Mark}
use Rattle.pat_semantics_spec.specs.Values.{Op}
use Rattle.pat_semantics_spec.specs.Programs.{Polarity}
use Rattle.pat_parser_spec.specs.Trees as tree
use Rattle.pat_parser_spec.specs.Trees.{span, operators, pattern_operators}
use Rattle.pat_parser_spec.specs.Items.{At, Item, place_of, named, Limits, Room, RoomBelow, additive, comparison, polarity_of}
use Rattle.pat_parser_spec.specs.Grammar.{Level, Atom, Product, Sum, Whole, Operand, Expr, Pattern, Separated, Optional, Arg, Binder, Simple, Any, Term, Clauses, WrittenType, Message, Param, Decls}
use Rattle.pat_parser_spec.specs.Machine.{Pending, Before, Head, ToCall, ToSend, Guarding, ClauseHead, Interfacing, Defining, Naming, InterfaceName, MessageName, FunctionName, ParamName, LetName, NewName, FreeName, GuardName, TagName, ReceiveName, BinderName, FromName, Frame, AtType, AtPattern, AtExpr, AtLet, AtBlock, AtGuard, InMessage, InParam, InResult, InTyped, InGuarded, InPatternBracket, InBracket, InPrint, InArgs, InTest, InBound, InBody, InBlock, InYes, InNo, InSpawn, InFree, InReceive, InDef, AtDecl, WantName, GotName, FirstPayload, AfterMessage, FirstParam, AfterParams, WantType, AfterTypeName, AfterPolarity, HaveType, WantPattern, HavePattern, Start, Named, AfterPrint, AfterNew, AfterSpawn, AfterFree, AfterYes, AfterElse, AtClause, AfterFreeWord, FirstBinder, AfterBinders, FirstArg, Opened, Want, Have, Done, State, state}
use Rattle.pat_parser_laws.proofs.CompleteTerm.{guarding, head}
use Rattle.pat_parser_laws.proofs.CompleteDecl.{interfacing, defining}

-- ---- what stands before an operand

pub data Compared (lim : Limits) (o : ℕ) : ℕ → Option (Op × Operand) → List Item → List Item → ℕ → Type 0 where
  no_compared : {k : ℕ} {ts : List Item} → Compared lim o k None ts ts k
  is_compared : {k r : ℕ} {c : Token} {q : Op} {w : At} {ts us : List Item} {a : Operand} → comparison c ≡ Some q → Expr lim o k Sum ts a r ((c, w) ∷ us) → Room lim w o (k + operators a.0) → Compared lim o k (Some (q, a)) ts us (suc (k + operators a.0))

pub data Added (lim : Limits) (o : ℕ) : ℕ → Option (Op × Operand) → List Item → List Item → ℕ → Type 0 where
  no_added : {k : ℕ} {ts : List Item} → Added lim o k None ts ts k
  is_added : {k r : ℕ} {c : Token} {q : Op} {w : At} {ts us : List Item} {a : Operand} → additive c ≡ Some q → Expr lim o k Sum ts a r ((c, w) ∷ us) → Room lim w o (k + operators a.0) → Added lim o k (Some (q, a)) ts us (suc (k + operators a.0))

pub data Multiplied (lim : Limits) (o : ℕ) : ℕ → Option Operand → List Item → List Item → ℕ → Type 0 where
  no_multiplied : {k : ℕ} {ts : List Item} → Multiplied lim o k None ts ts k
  is_multiplied : {k r : ℕ} {w : At} {ts us : List Item} {a : Operand} → Expr lim o k Product ts a r ((Mark mark.Star, w) ∷ us) → Room lim w o (k + operators a.0) → Multiplied lim o k (Some a) ts us (suc (k + operators a.0))

pub record Pends (lim : Limits) (o k0 : ℕ) (p : Pending) (ts us : List Item) (k : ℕ) : Type 0 where
  pub k1 : ℕ
  pub k2 : ℕ
  pub bs : List Item
  pub ms : List Item
  pub compared : Compared lim o k0 p.compared ts bs k1
  pub added : Added lim o k1 p.added bs ms k2
  pub multiplied : Multiplied lim o k2 p.multiplied ms us k

-- an expression, and how many operators are open behind it
pub record Is (lim : Limits) (o k0 : ℕ) (l : Level) (ts : List Item) (a : Operand) (t : ℕ) (us : List Item) (k : ℕ) : Type 0 where
  pub derived : Expr lim o k0 l ts a t us
  pub count : k ≡ k0 + operators a.0

-- ---- what stands before a factor of a pattern

pub data Stars (lim : Limits) (o : ℕ) : ℕ → ℕ → List Item → List Item → ℕ → Type 0 where
  no_stars : {k : ℕ} {ts : List Item} → Stars lim o k 0 ts ts k
  a_star : {k n k1 : ℕ} {w : At} {ts us : List Item} → Stars lim o k n ts ((Mark mark.Star, w) ∷ us) k1 → Room lim w o k1 → Stars lim o k (suc n) ts us (suc k1)

pub data Times (lim : Limits) (o : ℕ) : ℕ → Option tree.Pattern → List Item → List Item → ℕ → Type 0 where
  no_times : {k : ℕ} {ts : List Item} → Times lim o k None ts ts k
  is_times : {k r : ℕ} {w : At} {ts us : List Item} {p : tree.Pattern} → Pattern lim o k Product ts p r ((Mark mark.Dot, w) ∷ us) → Room lim w o (k + pattern_operators p) → Times lim o k (Some p) ts us (suc (k + pattern_operators p))

pub data Plus (lim : Limits) (o : ℕ) : ℕ → Option tree.Pattern → List Item → List Item → ℕ → Type 0 where
  no_plus : {k : ℕ} {ts : List Item} → Plus lim o k None ts ts k
  is_plus : {k r : ℕ} {w : At} {ts us : List Item} {p : tree.Pattern} → Pattern lim o k Whole ts p r ((Mark mark.Plus, w) ∷ us) → Room lim w o (k + pattern_operators p) → Plus lim o k (Some p) ts us (suc (k + pattern_operators p))

pub record PatternPends (lim : Limits) (o k0 : ℕ) (p : Before) (ts us : List Item) (k : ℕ) : Type 0 where
  pub k1 : ℕ
  pub k2 : ℕ
  pub bs : List Item
  pub ms : List Item
  pub added : Plus lim o k0 p.added ts bs k1
  pub multiplied : Times lim o k1 p.multiplied bs ms k2
  pub stars : Stars lim o k2 p.stars ms us k

pub record PatternIs (lim : Limits) (o k0 : ℕ) (l : Level) (ts : List Item) (p : tree.Pattern) (t : ℕ) (us : List Item) (k : ℕ) : Type 0 where
  pub derived : Pattern lim o k0 l ts p t us
  pub count : k ≡ k0 + pattern_operators p

-- ---- what was read before the part that begins

-- some, each with the comma behind it
pub data Followed {A : Type 0} (One : List Item → A → List Item → Type 0) : List Item → List A → List Item → Type 0 where
  not_yet : {ts : List Item} → Followed One ts [] ts
  so_far : {w : At} {ts us : List Item} {xs : List A} → Separated One ts xs ((Mark mark.Comma, w) ∷ us) → Followed One ts xs us

pub data InterfaceBegun (lim : Limits) : Interfacing → List Item → List Item → Type 0 where
  interface_begun : {b : Bool} {x : List ℕ} {w n v : At} {all us ts : List Item} {ds : List tree.Decl} {ms : List tree.Message} → Decls lim b all ds ((Word word.Interface, w) ∷ (Name x, n) ∷ (Mark mark.CurlyOpen, v) ∷ us) → Room lim v 0 0 → Followed (Message lim) us ms ts → InterfaceBegun lim (interfacing ds (named x n) ms) all ts

pub data InterfaceRead (lim : Limits) : Interfacing → List Item → List Item → Type 0 where
  interface_read : {b : Bool} {x : List ℕ} {w n v : At} {all us ts : List Item} {ds : List tree.Decl} {ms : List tree.Message} → Decls lim b all ds ((Word word.Interface, w) ∷ (Name x, n) ∷ (Mark mark.CurlyOpen, v) ∷ us) → Room lim v 0 0 → Separated (Message lim) us ms ts → InterfaceRead lim (interfacing ds (named x n) ms) all ts

pub data DefBegun (lim : Limits) : Defining → List Item → List Item → Type 0 where
  def_begun : {b : Bool} {x : List ℕ} {w n v : At} {all us ts : List Item} {ds : List tree.Decl} {ps : List tree.Param} → Decls lim b all ds ((Word word.Def, w) ∷ (Name x, n) ∷ (Mark mark.RoundOpen, v) ∷ us) → Room lim v 0 0 → Followed (Param lim) us ps ts → DefBegun lim (defining ds (named x n) ps) all ts

pub data DefHead (lim : Limits) : Defining → List Item → List Item → Type 0 where
  def_head : {b : Bool} {x : List ℕ} {w n v z : At} {all us ts : List Item} {ds : List tree.Decl} {ps : List tree.Param} → Decls lim b all ds ((Word word.Def, w) ∷ (Name x, n) ∷ (Mark mark.RoundOpen, v) ∷ us) → Room lim v 0 0 → Optional (Param lim) us ps ((Mark mark.RoundClose, z) ∷ ts) → DefHead lim (defining ds (named x n) ps) all ts

-- the head of a call or a send
pub data HeadRead : Head → List Item → List Item → Type 0 where
  to_call : {x : List ℕ} {a : At} {us : List Item} → HeadRead (ToCall (named x a)) ((Name x, a) ∷ us) us
  to_send : {x y : List ℕ} {a b c : At} {us : List Item} → HeadRead (ToSend (named x a) (named y c)) ((Name x, a) ∷ (Mark mark.Bang, b) ∷ (Name y, c) ∷ us) us

-- the part that is wanted
pub data Kind : Type 0 where
  ForType : (payload : Bool) → Kind
  ForPattern : Kind
  ForExpr : Kind
  ForSimple : Kind
  ForAny : Kind

mutual
  -- with these frames, brackets, operators and statements open, a part of the kind is wanted
  pub data Under (lim : Limits) : Kind → List Frame → ℕ → ℕ → ℕ → List Item → List Item → Type 0 where
    in_message : {i : Interfacing} {x : List ℕ} {w v : At} {all us ts : List Item} {ps : List tree.WrittenType} → InterfaceBegun lim i all ((Name x, w) ∷ (Mark mark.RoundOpen, v) ∷ us) → Room lim v 1 0 → Followed (WrittenType lim 2 true) us ps ts → Under lim (ForType true) (AtType (InMessage i (named x w) ps) ∷ []) 2 0 0 all ts
    in_param : {d : Defining} {x : List ℕ} {w c : At} {all ts : List Item} → DefBegun lim d all ((Name x, w) ∷ (Mark mark.Colon, c) ∷ ts) → Under lim (ForType false) (AtType (InParam d (named x w)) ∷ []) 1 0 0 all ts
    in_result : {d : Defining} {c : At} {all ts : List Item} → DefHead lim d all ((Mark mark.Colon, c) ∷ ts) → Under lim (ForType false) (AtType (InResult d) ∷ []) 0 0 0 all ts
    in_typed : {b : Bool} {fs : List Frame} {o : ℕ} {x : List ℕ} {c : Token} {q : Polarity} {w v : At} {all ts : List Item} → Under lim (ForType b) fs o 0 0 all ((Name x, w) ∷ (c, v) ∷ ts) → polarity_of c ≡ Some q → Under lim ForPattern (AtPattern (InTyped (named x w) q) ∷ fs) o 0 0 all ts
    in_guarded : {fs : List Frame} {o s : ℕ} {x : List ℕ} {w n c : At} {all ts : List Item} → Under lim ForSimple fs o 0 s all ((Word word.Guard, w) ∷ (Name x, n) ∷ (Mark mark.Colon, c) ∷ ts) → Under lim ForPattern (AtPattern (InGuarded (named x n) w.from) ∷ fs) o 0 s all ts
    in_pattern_bracket : {fs : List Frame} {o k0 k s : ℕ} {p : Before} {w : At} {all ts us : List Item} → Under lim ForPattern fs o k0 s all ts → PatternPends lim o k0 p ts ((Mark mark.RoundOpen, w) ∷ us) k → Room lim w o k → Under lim ForPattern (AtPattern (InPatternBracket p o) ∷ fs) (suc o) k s all us
    in_bracket : {fs : List Frame} {o k0 k s : ℕ} {p : Pending} {w : At} {all ts us : List Item} → Under lim ForExpr fs o k0 s all ts → Pends lim o k0 p ts ((Mark mark.RoundOpen, w) ∷ us) k → Room lim w o k → Under lim ForExpr (AtExpr (InBracket p w.from o) ∷ fs) (suc o) k s all us
    in_print : {fs : List Frame} {o s : ℕ} {w v : At} {all ts : List Item} → Under lim ForSimple fs o 0 s all ((Word word.Print, w) ∷ (Mark mark.RoundOpen, v) ∷ ts) → Room lim v o 0 → Under lim ForExpr (AtExpr (InPrint w.from o) ∷ fs) (suc o) 0 s all ts
    in_args : {fs : List Frame} {o s : ℕ} {h : Head} {es : List tree.Expr} {v : At} {all ts us vs : List Item} → Under lim ForSimple fs o 0 s all ts → HeadRead h ts ((Mark mark.RoundOpen, v) ∷ us) → Room lim v o 0 → Followed (Arg lim (suc o)) us es vs → Under lim ForExpr (AtExpr (InArgs h es o) ∷ fs) (suc o) 0 s all vs
    in_test : {fs : List Frame} {o s : ℕ} {w : At} {all ts : List Item} → Under lim ForSimple fs o 0 s all ((Word word.If, w) ∷ ts) → Under lim ForExpr (AtExpr (InTest w.from) ∷ fs) o 0 s all ts
    as_value : {fs : List Frame} {o s : ℕ} {all ts : List Item} → Under lim ForSimple fs o 0 s all ts → Under lim ForExpr fs o 0 s all ts
    in_bound : {fs : List Frame} {o s : ℕ} {x : List ℕ} {w n c : At} {all ts : List Item} → Under lim ForAny fs o 0 s all ((Word word.Let, w) ∷ (Name x, n) ∷ (Mark mark.Equals, c) ∷ ts) → Under lim ForSimple (AtLet (InBound (named x n) w.from) ∷ fs) o 0 s all ts
    as_simple : {fs : List Frame} {o s : ℕ} {all ts : List Item} → Under lim ForAny fs o 0 s all ts → Under lim ForSimple fs o 0 s all ts
    in_then : {fs : List Frame} {o s f : ℕ} {w : At} {all ts us : List Item} {m : tree.Term} → Under lim ForAny fs o 0 s all ts → Term lim o s Simple ts m f ((Mark mark.Semicolon, w) ∷ us) → RoomBelow lim w s → Under lim ForAny (AtLet (InBody None m f) ∷ fs) o 0 (suc s) all us
    in_body : {fs : List Frame} {o s f : ℕ} {x : List ℕ} {w n c i : At} {all ts us : List Item} {m : tree.Term} → Under lim ForAny fs o 0 s all ((Word word.Let, w) ∷ (Name x, n) ∷ (Mark mark.Equals, c) ∷ ts) → Term lim o s Simple ts m f ((Word word.In, i) ∷ us) → RoomBelow lim i s → Under lim ForAny (AtLet (InBody (Some (named x n)) m w.from) ∷ fs) o 0 (suc s) all us
    in_block : {fs : List Frame} {o s : ℕ} {w : At} {all ts : List Item} → Under lim ForSimple fs o 0 s all ((Mark mark.CurlyOpen, w) ∷ ts) → Room lim w o 0 → Under lim ForAny (AtBlock (InBlock w.from o s) ∷ fs) (suc o) 0 s all ts
    in_yes : {fs : List Frame} {o s t : ℕ} {w v : At} {all ts us : List Item} {a : Operand} → Under lim ForSimple fs o 0 s all ((Word word.If, w) ∷ ts) → Expr lim o 0 Whole ts a t ((Mark mark.CurlyOpen, v) ∷ us) → Room lim v o 0 → Under lim ForAny (AtBlock (InYes a.0 w.from o s) ∷ fs) (suc o) 0 s all us
    in_no : {fs : List Frame} {o s t f : ℕ} {w v c l d : At} {all ts us vs : List Item} {a : Operand} {m : tree.Term} → Under lim ForSimple fs o 0 s all ((Word word.If, w) ∷ ts) → Expr lim o 0 Whole ts a t ((Mark mark.CurlyOpen, v) ∷ us) → Room lim v o 0 → Term lim (suc o) s Any us m f ((Mark mark.CurlyClose, c) ∷ (Word word.Else, l) ∷ (Mark mark.CurlyOpen, d) ∷ vs) → Room lim d o 0 → Under lim ForAny (AtBlock (InNo a.0 m w.from o s) ∷ fs) (suc o) 0 s all vs
    in_spawn : {fs : List Frame} {o s : ℕ} {w v : At} {all ts : List Item} → Under lim ForSimple fs o 0 s all ((Word word.Spawn, w) ∷ (Mark mark.CurlyOpen, v) ∷ ts) → Room lim v o 0 → Under lim ForAny (AtBlock (InSpawn w.from o s) ∷ fs) (suc o) 0 s all ts
    in_free : {b : Bool} {g : Guarding} {fs : List Frame} {w a : At} {all ts : List Item} → GuardRead lim b g fs all ((Word word.Free, w) ∷ (Mark mark.Arrow, a) ∷ ts) → Under lim ForAny (AtGuard (InFree g (place_of w)) ∷ fs) g.inside 0 g.statements all ts
    in_receive : {b : Bool} {g : Guarding} {fs : List Frame} {x y : List ℕ} {ns : List tree.Name} {w n v z r h a : At} {all us ts : List Item} → GuardRead lim b g fs all ((Word word.Receive, w) ∷ (Name x, n) ∷ (Mark mark.RoundOpen, v) ∷ us) → Room lim v g.inside 0 → Optional Binder us ns ((Mark mark.RoundClose, z) ∷ (Word word.From, r) ∷ (Name y, h) ∷ (Mark mark.Arrow, a) ∷ ts) → Under lim ForAny (AtGuard (InReceive (head g (place_of w) (named x n) ns) (named y h)) ∷ fs) g.inside 0 g.statements all ts
    in_def : {d : Defining} {r : tree.WrittenType} {c v : At} {all us ts : List Item} → DefHead lim d all ((Mark mark.Colon, c) ∷ us) → WrittenType lim 0 false us r ((Mark mark.CurlyOpen, v) ∷ ts) → Room lim v 0 0 → Under lim ForAny (AtBlock (InDef d r) ∷ []) 1 0 0 all ts

  -- a guard with its clauses so far
  pub data GuardRead (lim : Limits) : Bool → Guarding → List Frame → List Item → List Item → Type 0 where
    guard_read : {b : Bool} {fs : List Frame} {o s t : ℕ} {x : List ℕ} {w n c v : At} {all ts us vs : List Item} {p : tree.Pattern} {cs : List tree.Clause} → Under lim ForSimple fs o 0 s all ((Word word.Guard, w) ∷ (Name x, n) ∷ (Mark mark.Colon, c) ∷ ts) → Pattern lim o 0 Whole ts p t ((Mark mark.CurlyOpen, v) ∷ us) → Room lim v o 0 → Clauses lim o s b us cs vs → GuardRead lim b (guarding (named x n) p w.from o s cs) fs all vs

-- the head of a receive clause, with names so far
pub data ReceiveBegun (lim : Limits) : ClauseHead → List Frame → List Item → List Item → Type 0 where
  receive_begun : {b : Bool} {g : Guarding} {fs : List Frame} {x : List ℕ} {ns : List tree.Name} {w n v : At} {all us ts : List Item} → GuardRead lim b g fs all ((Word word.Receive, w) ∷ (Name x, n) ∷ (Mark mark.RoundOpen, v) ∷ us) → Room lim v g.inside 0 → Followed Binder us ns ts → ReceiveBegun lim (head g (place_of w) (named x n) ns) fs all ts

-- the head of a receive clause, up to its bracket
pub data ReceiveRead (lim : Limits) : ClauseHead → List Frame → List Item → List Item → Type 0 where
  receive_read : {b : Bool} {g : Guarding} {fs : List Frame} {x : List ℕ} {ns : List tree.Name} {w n v z : At} {all us ts : List Item} → GuardRead lim b g fs all ((Word word.Receive, w) ∷ (Name x, n) ∷ (Mark mark.RoundOpen, v) ∷ us) → Room lim v g.inside 0 → Optional Binder us ns ((Mark mark.RoundClose, z) ∷ ts) → ReceiveRead lim (head g (place_of w) (named x n) ns) fs all ts

-- what was read before a name
pub data Wants (lim : Limits) : Naming → List Frame → ℕ → ℕ → List Item → List Item → Type 0 where
  for_interface : {b : Bool} {w : At} {all ts : List Item} {ds : List tree.Decl} → Decls lim b all ds ((Word word.Interface, w) ∷ ts) → Wants lim (InterfaceName ds) [] 0 0 all ts
  for_message : {i : Interfacing} {all ts : List Item} → InterfaceBegun lim i all ts → Wants lim (MessageName i) [] 1 0 all ts
  for_function : {b : Bool} {w : At} {all ts : List Item} {ds : List tree.Decl} → Decls lim b all ds ((Word word.Def, w) ∷ ts) → Wants lim (FunctionName ds) [] 0 0 all ts
  for_param : {d : Defining} {all ts : List Item} → DefBegun lim d all ts → Wants lim (ParamName d) [] 1 0 all ts
  for_let : {fs : List Frame} {o s : ℕ} {w : At} {all ts : List Item} → Under lim ForAny fs o 0 s all ((Word word.Let, w) ∷ ts) → Wants lim (LetName w.from) fs o s all ts
  for_new : {fs : List Frame} {o s : ℕ} {w v : At} {all ts : List Item} → Under lim ForSimple fs o 0 s all ((Word word.New, w) ∷ (Mark mark.SquareOpen, v) ∷ ts) → Room lim v o 0 → Wants lim (NewName w.from o) fs (suc o) s all ts
  for_free : {fs : List Frame} {o s : ℕ} {w v : At} {all ts : List Item} → Under lim ForSimple fs o 0 s all ((Word word.Free, w) ∷ (Mark mark.RoundOpen, v) ∷ ts) → Room lim v o 0 → Wants lim (FreeName w.from o) fs (suc o) s all ts
  for_guard : {fs : List Frame} {o s : ℕ} {w : At} {all ts : List Item} → Under lim ForSimple fs o 0 s all ((Word word.Guard, w) ∷ ts) → Wants lim (GuardName w.from) fs o s all ts
  for_tag : {fs : List Frame} {o s : ℕ} {x : List ℕ} {a b : At} {all ts : List Item} → Under lim ForSimple fs o 0 s all ((Name x, a) ∷ (Mark mark.Bang, b) ∷ ts) → Wants lim (TagName (named x a)) fs o s all ts
  for_receive : {b : Bool} {g : Guarding} {fs : List Frame} {w : At} {all ts : List Item} → GuardRead lim b g fs all ((Word word.Receive, w) ∷ ts) → Wants lim (ReceiveName g (place_of w)) fs g.inside g.statements all ts
  for_binder : {r : ClauseHead} {fs : List Frame} {all ts : List Item} → ReceiveBegun lim r fs all ts → Wants lim (BinderName r) fs (suc r.guard.inside) r.guard.statements all ts
  for_from : {r : ClauseHead} {fs : List Frame} {q : At} {all ts : List Item} → ReceiveRead lim r fs all ((Word word.From, q) ∷ ts) → Wants lim (FromName r) fs r.guard.inside r.guard.statements all ts

-- ---- the state

pub data Built (lim : Limits) : State → List Item → List Item → Type 0 where
  at_decl : {b : Bool} {all us : List Item} {ds : List tree.Decl} → Decls lim b all ds us → Built lim (state (AtDecl (not b) ds) [] 0 0 0) all us
  at_want_name : {what : Naming} {fs : List Frame} {o s : ℕ} {all us : List Item} → Wants lim what fs o s all us → Built lim (state (WantName what) fs o 0 s) all us
  at_got_name : {what : Naming} {fs : List Frame} {o s : ℕ} {x : List ℕ} {n : At} {all us : List Item} → Wants lim what fs o s all ((Name x, n) ∷ us) → Built lim (state (GotName what (named x n)) fs o 0 s) all us
  at_first_payload : {i : Interfacing} {x : List ℕ} {w v : At} {all us : List Item} → InterfaceBegun lim i all ((Name x, w) ∷ (Mark mark.RoundOpen, v) ∷ us) → Room lim v 1 0 → Built lim (state FirstPayload (AtType (InMessage i (named x w) []) ∷ []) 2 0 0) all us
  at_after_message : {i : Interfacing} {all us : List Item} → InterfaceRead lim i all us → Built lim (state (AfterMessage i) [] 1 0 0) all us
  at_first_param : {b : Bool} {x : List ℕ} {w n v : At} {all us : List Item} {ds : List tree.Decl} → Decls lim b all ds ((Word word.Def, w) ∷ (Name x, n) ∷ (Mark mark.RoundOpen, v) ∷ us) → Room lim v 0 0 → Built lim (state (FirstParam (defining ds (named x n) [])) [] 1 0 0) all us
  at_after_params : {d : Defining} {all us : List Item} → DefHead lim d all us → Built lim (state (AfterParams d) [] 0 0 0) all us
  at_want_type : {b : Bool} {fs : List Frame} {o : ℕ} {all us : List Item} → Under lim (ForType b) fs o 0 0 all us → Built lim (state WantType fs o 0 0) all us
  at_type_name : {b : Bool} {fs : List Frame} {o : ℕ} {x : List ℕ} {w : At} {all us : List Item} → Under lim (ForType b) fs o 0 0 all ((Name x, w) ∷ us) → Built lim (state (AfterTypeName (named x w)) fs o 0 0) all us
  at_polarity : {fs : List Frame} {o : ℕ} {x : List ℕ} {c : Token} {q : Polarity} {w v : At} {all us : List Item} → Under lim (ForType false) fs o 0 0 all ((Name x, w) ∷ (c, v) ∷ us) → polarity_of c ≡ Some q → Built lim (state (AfterPolarity (named x w) q v.to) fs o 0 0) all us
  at_have_type : {b : Bool} {fs : List Frame} {o : ℕ} {all ts us : List Item} {a : tree.WrittenType} → Under lim (ForType b) fs o 0 0 all ts → WrittenType lim o b ts a us → Built lim (state (HaveType a) fs o 0 0) all us
  at_want_pattern : {fs : List Frame} {o k0 k s : ℕ} {p : Before} {all ts us : List Item} → Under lim ForPattern fs o k0 s all ts → PatternPends lim o k0 p ts us k → Built lim (state (WantPattern p) fs o k s) all us
  at_have_pattern : {fs : List Frame} {o k0 k1 k s t : ℕ} {p : Before} {q : tree.Pattern} {all ts us vs : List Item} → Under lim ForPattern fs o k0 s all ts → PatternPends lim o k0 p ts us k1 → PatternIs lim o k1 Atom us q t vs k → Built lim (state (HavePattern p q t) fs o k s) all vs
  at_start : {fs : List Frame} {o s : ℕ} {all us : List Item} → Under lim ForAny fs o 0 s all us → Built lim (state (Start true) fs o 0 s) all us
  at_bound : {fs : List Frame} {o s : ℕ} {all us : List Item} → Under lim ForSimple fs o 0 s all us → Built lim (state (Start false) fs o 0 s) all us
  at_named : {fs : List Frame} {o s : ℕ} {x : List ℕ} {w : At} {all us : List Item} → Under lim ForSimple fs o 0 s all ((Name x, w) ∷ us) → Built lim (state (Named (named x w)) fs o 0 s) all us
  at_print : {fs : List Frame} {o s : ℕ} {w : At} {all us : List Item} → Under lim ForSimple fs o 0 s all ((Word word.Print, w) ∷ us) → Built lim (state (AfterPrint w.from) fs o 0 s) all us
  at_new : {fs : List Frame} {o s : ℕ} {w : At} {all us : List Item} → Under lim ForSimple fs o 0 s all ((Word word.New, w) ∷ us) → Built lim (state (AfterNew w.from) fs o 0 s) all us
  at_spawn : {fs : List Frame} {o s : ℕ} {w : At} {all us : List Item} → Under lim ForSimple fs o 0 s all ((Word word.Spawn, w) ∷ us) → Built lim (state (AfterSpawn w.from) fs o 0 s) all us
  at_free : {fs : List Frame} {o s : ℕ} {w : At} {all us : List Item} → Under lim ForSimple fs o 0 s all ((Word word.Free, w) ∷ us) → Built lim (state (AfterFree w.from) fs o 0 s) all us
  at_yes : {fs : List Frame} {o s t f : ℕ} {w v c : At} {all ts us vs : List Item} {a : Operand} {m : tree.Term} → Under lim ForSimple fs o 0 s all ((Word word.If, w) ∷ ts) → Expr lim o 0 Whole ts a t ((Mark mark.CurlyOpen, v) ∷ us) → Room lim v o 0 → Term lim (suc o) s Any us m f ((Mark mark.CurlyClose, c) ∷ vs) → Built lim (state (AfterYes a.0 m w.from) fs o 0 s) all vs
  at_else : {fs : List Frame} {o s t f : ℕ} {w v c l : At} {all ts us vs : List Item} {a : Operand} {m : tree.Term} → Under lim ForSimple fs o 0 s all ((Word word.If, w) ∷ ts) → Expr lim o 0 Whole ts a t ((Mark mark.CurlyOpen, v) ∷ us) → Room lim v o 0 → Term lim (suc o) s Any us m f ((Mark mark.CurlyClose, c) ∷ (Word word.Else, l) ∷ vs) → Built lim (state (AfterElse a.0 m w.from) fs o 0 s) all vs
  at_clause : {b : Bool} {g : Guarding} {fs : List Frame} {all us : List Item} → GuardRead lim b g fs all us → Built lim (state (AtClause (not b) g) fs g.inside 0 g.statements) all us
  at_free_word : {b : Bool} {g : Guarding} {fs : List Frame} {w : At} {all us : List Item} → GuardRead lim b g fs all ((Word word.Free, w) ∷ us) → Built lim (state (AfterFreeWord g (place_of w)) fs g.inside 0 g.statements) all us
  at_first_binder : {b : Bool} {g : Guarding} {fs : List Frame} {x : List ℕ} {w n v : At} {all us : List Item} → GuardRead lim b g fs all ((Word word.Receive, w) ∷ (Name x, n) ∷ (Mark mark.RoundOpen, v) ∷ us) → Room lim v g.inside 0 → Built lim (state (FirstBinder (head g (place_of w) (named x n) [])) fs (suc g.inside) 0 g.statements) all us
  at_after_binders : {r : ClauseHead} {fs : List Frame} {all us : List Item} → ReceiveRead lim r fs all us → Built lim (state (AfterBinders r) fs r.guard.inside 0 r.guard.statements) all us
  at_first_arg : {fs : List Frame} {o s : ℕ} {h : Head} {v : At} {all ts us : List Item} → Under lim ForSimple fs o 0 s all ts → HeadRead h ts ((Mark mark.RoundOpen, v) ∷ us) → Room lim v o 0 → Built lim (state FirstArg (AtExpr (InArgs h [] o) ∷ fs) (suc o) 0 s) all us
  at_opened : {fs : List Frame} {o k0 k s : ℕ} {p : Pending} {w : At} {all ts us : List Item} → Under lim ForExpr fs o k0 s all ts → Pends lim o k0 p ts ((Mark mark.RoundOpen, w) ∷ us) k → Room lim w o k → Built lim (state Opened (AtExpr (InBracket p w.from o) ∷ fs) (suc o) k s) all us
  at_want : {fs : List Frame} {o k0 k s : ℕ} {p : Pending} {all ts us : List Item} → Under lim ForExpr fs o k0 s all ts → Pends lim o k0 p ts us k → Built lim (state (Want p) fs o k s) all us
  at_have : {fs : List Frame} {o k0 k1 k s t : ℕ} {p : Pending} {a : Operand} {all ts us vs : List Item} → Under lim ForExpr fs o k0 s all ts → Pends lim o k0 p ts us k1 → Is lim o k1 Atom us a t vs k → Built lim (state (Have p a t) fs o k s) all vs
  at_done : {fs : List Frame} {o s f : ℕ} {all ts us : List Item} {m : tree.Term} → Under lim ForSimple fs o 0 s all ts → Term lim o s Simple ts m f us → Built lim (state (Done m f) fs o 0 s) all us
