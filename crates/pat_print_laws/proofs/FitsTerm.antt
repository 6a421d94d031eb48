-- Where bound tokens spell a text, there is room for its canonical tokens.
use Rattle.std.proofs.Common.{◌≡◌, ℕ, suc, ◌≤◌, Bool, true, false, List, [], ◌∷◌, ◌++◌, Some, None, refl, arith}
use Rattle.pat_parser_spec.specs.Trees as tree
use Rattle.pat_parser_spec.specs.Trees.{listed, no_clauses, with_clause}
use Rattle.pat_parser_spec.specs.Items.{Item, place_of, Limits, RoomBelow}
use Rattle.pat_parser_spec.specs.Grammar.{Separated, one, more, Optional, none, some, Arg, Binder, binder, Part, Simple, Any, Term, value, print, new, spawn, free, send, call, branch, guard, block, simple, then, bind, Clauses, no_clause, fail_clause, free_clause, receive_clause, WrittenType, base, mailbox, short, Message, message, Param, param, Decls, no_decl, interface, function}
use Rattle.pat_print_spec.specs.Canonical.{opens_simple}
use Rattle.pat_print_laws.proofs.Fits.{Bound, at_zero, RoomFor, expr_bound, pattern_bound, room_less, below_less, never, Fits, expr_fits, PatternFits, pattern_fits}

-- each item of a list is so
abbrev pub Each : {A : Type 0} → (A → Type 0) → List A → Type 0
Each P [] = Unit {0}
Each P (x ∷ xs) = P x × Each P xs

pub each_snoc : {A : Type 0} (P : A → Type 0) (xs : List A) (x : A) → Each P xs → P x → Each P (xs ++ x ∷ [])
each_snoc P [] x f g = (g, tt)
each_snoc P (y ∷ xs) x f g = (f.0, each_snoc P xs x f.1 g)

abbrev pub any : {A : Type 0} → List A → Bool
any [] = false
any (x ∷ xs) = true

any_snoc : {A : Type 0} (xs : List A) (x : A) → any (xs ++ x ∷ []) ≡ true
any_snoc [] x = refl
any_snoc (y ∷ xs) x = refl

-- ---- what is left of bound tokens is bound

separated_bound : {A : Type 0} {One : List Item → A → List Item → Type 0} {ts us : List Item} {xs : List A} → ((vs ws : List Item) (a : A) → One vs a ws → Bound vs → Bound ws) → Separated One ts xs us → Bound ts → Bound us
separated_bound h (one {ts = ts} {us = us} {a = a} d) b = h ts us a d b
separated_bound h (more {us = us} {vs = vs} {a = a} d f) b = h us vs a f (separated_bound h d b).1

optional_bound : {A : Type 0} {One : List Item → A → List Item → Type 0} {ts us : List Item} {xs : List A} → ((vs ws : List Item) (a : A) → One vs a ws → Bound vs → Bound ws) → Optional One ts xs us → Bound ts → Bound us
optional_bound h none b = b
optional_bound h (some d) b = separated_bound h d b

arg_bound : (lim : Limits) (o : ℕ) (ts us : List Item) (e : tree.Expr) → Arg lim o ts e us → Bound ts → Bound us
arg_bound lim o ts us e d b = expr_bound d.2 b

binder_bound : (ts us : List Item) (x : tree.Name) → Binder ts x us → Bound ts → Bound us
binder_bound ts us x binder b = b.1

mutual
  term_bound : {lim : Limits} {o s f : ℕ} {l : Part} {ts us : List Item} {m : tree.Term} → Term lim o s l ts m f us → Bound ts → Bound us
  term_bound (value d) b = expr_bound d b
  term_bound (print room d) b = (expr_bound d b.1.1).1
  term_bound (new room) b = b.1.1.1.1
  term_bound (spawn room d) b = (term_bound d b.1.1).1
  term_bound (free room) b = b.1.1.1.1
  term_bound {lim = lim} {o = o} (send room d) b = (optional_bound (arg_bound lim (suc o)) d b.1.1.1.1).1
  term_bound {lim = lim} {o = o} (call room d) b = (optional_bound (arg_bound lim (suc o)) d b.1.1).1
  term_bound (branch d room e space f) b = (term_bound f (term_bound e (expr_bound d b.1).1).1.1.1).1
  term_bound (guard d room cs) b = (clauses_bound cs (pattern_bound d b.1.1.1).1).1
  term_bound (block room d) b = (term_bound d b.1).1
  term_bound (simple d) b = term_bound d b
  term_bound (then d room e) b = term_bound e (term_bound d b).1
  term_bound (bind d room e) b = term_bound e (term_bound d b.1.1.1).1

  clauses_bound : {lim : Limits} {o s : ℕ} {c : Bool} {ts us : List Item} {cs : List tree.Clause} → Clauses lim o s c ts cs us → Bound ts → Bound us
  clauses_bound no_clause b = b
  clauses_bound (fail_clause d) b = (clauses_bound d b).1
  clauses_bound (free_clause d e) b = term_bound e (clauses_bound d b).1.1
  clauses_bound (receive_clause d room ns e) b = term_bound e (optional_bound binder_bound ns (clauses_bound d b).1.1.1).1.1.1.1

type_bound : (lim : Limits) (o : ℕ) (p : Bool) (ts us : List Item) (a : tree.WrittenType) → WrittenType lim o p ts a us → Bound ts → Bound us
type_bound lim o p ts us a (base is) b = b.1
type_bound lim o p ts us a (mailbox is d) b = pattern_bound d b.1.1
type_bound lim o p ts us a (short omitted is) b = b.1.1

message_bound : (lim : Limits) (ts us : List Item) (m : tree.Message) → Message lim ts m us → Bound ts → Bound us
message_bound lim ts us m (message room d) b = (optional_bound (type_bound lim 2 true) d b.1.1).1

param_bound : (lim : Limits) (ts us : List Item) (p : tree.Param) → Param lim ts p us → Bound ts → Bound us
param_bound lim ts us p (param {ts = vs} {us = ws} {a = a} d) b = type_bound lim 1 false vs ws a d b.1.1

-- ---- terms

abbrev pub FitsSimple : Bool → (ℕ → ℕ → Type 0) → Limits → ℕ → ℕ → Type 0
FitsSimple true fits lim o s = RoomFor lim o 0 × fits (suc o) s
FitsSimple false fits lim o s = fits o s

abbrev pub any_clause : tree.Clauses → Bool
any_clause no_clauses = false
any_clause (with_clause c cs) = true

abbrev mutual
  pub TermFits : Limits → tree.Term → ℕ → ℕ → Type 0
  TermFits lim (tree.LetTerm x m n at) o s = FitsSimple (opens_simple m) (TermFits lim m) lim o s × RoomBelow lim at_zero s × TermFits lim n o (suc s)
  TermFits lim (tree.IfTerm e m n at) o s = Fits lim e o 0 × RoomFor lim o 0 × TermFits lim m (suc o) s × TermFits lim n (suc o) s
  TermFits lim (tree.PrintTerm e at) o s = RoomFor lim o 0 × Fits lim e (suc o) 0
  TermFits lim (tree.NewTerm x at) o s = RoomFor lim o 0
  TermFits lim (tree.SpawnTerm m at) o s = RoomFor lim o 0 × TermFits lim m (suc o) s
  TermFits lim (tree.FreeTerm x at) o s = RoomFor lim o 0
  TermFits lim (tree.GuardTerm x p cs at) o s = PatternFits lim p o 0 × RoomFor lim o 0 × (any_clause cs ≡ true) × ClausesFit lim cs (suc o) s
  TermFits lim (tree.SendTerm x y es at) o s = RoomFor lim o 0 × Each (λ e. Fits lim e (suc o) 0) es
  TermFits lim (tree.CallTerm f es at) o s = RoomFor lim o 0 × Each (λ e. Fits lim e (suc o) 0) es
  TermFits lim (tree.ValueTerm e at) o s = Fits lim e o 0

  pub ClauseFits : Limits → tree.Clause → ℕ → ℕ → Type 0
  ClauseFits lim (tree.FailClause w) o s = Unit {0}
  ClauseFits lim (tree.FreeClause w m) o s = TermFits lim m o s
  ClauseFits lim (tree.ReceiveClause w x ns y m) o s = RoomFor lim o 0 × TermFits lim m o s

  pub ClausesFit : Limits → tree.Clauses → ℕ → ℕ → Type 0
  ClausesFit lim no_clauses o s = Unit {0}
  ClausesFit lim (with_clause c cs) o s = ClauseFits lim c o s × ClausesFit lim cs o s

clauses_snoc : (lim : Limits) (cs : List tree.Clause) (c : tree.Clause) (o s : ℕ) → ClausesFit lim (listed cs) o s → ClauseFits lim c o s → ClausesFit lim (listed (cs ++ c ∷ [])) o s
clauses_snoc lim [] c o s f g = (g, tt)
clauses_snoc lim (d ∷ cs) c o s f g = (f.0, clauses_snoc lim cs c o s f.1 g)

clause_any : (cs : List tree.Clause) (c : tree.Clause) → any_clause (listed (cs ++ c ∷ [])) ≡ true
clause_any [] c = refl
clause_any (d ∷ cs) c = refl

args_fit : (lim : Limits) {o : ℕ} {ts us : List Item} {es : List tree.Expr} → Separated (Arg lim o) ts es us → Bound ts → (c : ℕ) → c ≤ o → Each (λ e. Fits lim e c 0) es
args_fit lim (one d) b c le = ((expr_fits lim d.2 b c 0 (omega arith)).0, tt)
args_fit lim {o = o} (more {xs = es} {a = e} d f) b c le = each_snoc (λ e. Fits lim e c 0) es e (args_fit lim d b c le) (expr_fits lim f.2 (separated_bound (arg_bound lim o) d b).1 c 0 (omega arith)).0

optional_args_fit : (lim : Limits) {o : ℕ} {ts us : List Item} {es : List tree.Expr} → Optional (Arg lim o) ts es us → Bound ts → (c : ℕ) → c ≤ o → Each (λ e. Fits lim e c 0) es
optional_args_fit lim none b c le = tt
optional_args_fit lim (some d) b c le = args_fit lim d b c le

abbrev opens_part : Part → tree.Term → Bool
opens_part Simple m = opens_simple m
opens_part Any m = false

-- wherever no more is open
abbrev TermBelow : Limits → Part → ℕ → ℕ → tree.Term → Type 0
TermBelow lim l o s m = (c r : ℕ) → c ≤ o → r ≤ s → TermFits lim m c r × (opens_part l m ≡ true → RoomFor lim c 0 × TermFits lim m (suc c) r)

abbrev ClausesBelow : Limits → ℕ → ℕ → Bool → List tree.Clause → Type 0
ClausesBelow lim o s b cs = ((c r : ℕ) → c ≤ o → r ≤ s → ClausesFit lim (listed cs) (suc c) r) × (b ≡ true → any_clause (listed cs) ≡ true)

simple_fits : (b : Bool) (lim : Limits) (m : tree.Term) (c r : ℕ) → TermFits lim m c r → (b ≡ true → RoomFor lim c 0 × TermFits lim m (suc c) r) → FitsSimple b (TermFits lim m) lim c r
simple_fits true lim m c r f g = g refl
simple_fits false lim m c r f g = f

mutual
  pub term_fits : (lim : Limits) {o s f : ℕ} {l : Part} {ts us : List Item} {m : tree.Term} → Term lim o s l ts m f us → Bound ts → TermBelow lim l o s m
  term_fits lim (value d) b = λ c r le less. ((expr_fits lim d b c 0 (omega arith)).0, λ h. never h)
  term_fits lim {o = o} (print {v = v} room d) b = λ c r le less. ((room_less lim v o 0 c 0 b.1.0 (omega arith) room, (expr_fits lim d b.1.1 (suc c) 0 (omega arith)).0), λ h. never h)
  term_fits lim {o = o} (new {v = v} room) b = λ c r le less. (room_less lim v o 0 c 0 b.1.0 (omega arith) room, λ h. never h)
  term_fits lim {o = o} (spawn {v = v} room d) b = λ c r le less. ((room_less lim v o 0 c 0 b.1.0 (omega arith) room, (term_fits lim d b.1.1 (suc c) r (omega arith) less).0), λ h. never h)
  term_fits lim {o = o} (free {v = v} room) b = λ c r le less. (room_less lim v o 0 c 0 b.1.0 (omega arith) room, λ h. never h)
  term_fits lim {o = o} (send {v = v} room d) b = λ c r le less. ((room_less lim v o 0 c 0 b.1.1.1.0 (omega arith) room, optional_args_fit lim d b.1.1.1.1 (suc c) (omega arith)), λ h. never h)
  term_fits lim {o = o} (call {v = v} room d) b = λ c r le less. ((room_less lim v o 0 c 0 b.1.0 (omega arith) room, optional_args_fit lim d b.1.1 (suc c) (omega arith)), λ h. never h)
  term_fits lim {o = o} (branch {v = v} d room e space f) b =
      let p = expr_bound d b.1 in
      let q = (term_bound e p.1).1.1.1 in
      λ c r le less. (((expr_fits lim d b.1 c 0 (omega arith)).0, room_less lim v o 0 c 0 p.0 (omega arith) room, (term_fits lim e p.1 (suc c) r (omega arith) less).0, (term_fits lim f q (suc c) r (omega arith) less).0), λ h. never h)
  term_fits lim {o = o} (guard {v = v} d room cs) b =
      let p = pattern_bound d b.1.1.1 in
      let q = clauses_fit lim cs p.1 in
      λ c r le less. (((pattern_fits lim d b.1.1.1 c 0 (omega arith)).0, room_less lim v o 0 c 0 p.0 (omega arith) room, q.1 refl, q.0 c r le less), λ h. never h)
  term_fits lim {o = o} (block {w = w} room d) b = λ c r le less. ((term_fits lim d b.1 c r (omega arith) less).0, λ h. (room_less lim w o 0 c 0 b.0 (omega arith) room, (term_fits lim d b.1 (suc c) r (omega arith) less).0))
  term_fits lim (simple d) b = λ c r le less. ((term_fits lim d b c r le less).0, λ h. never h)
  term_fits lim {s = s} (then {w = w} {m = m} d room e) b =
      let p = term_bound d b in
      λ c r le less.
      let x = term_fits lim d b c r le less in
      ((simple_fits (opens_simple m) lim m c r x.0 x.1, below_less lim w s r p.0 less room, (term_fits lim e p.1 c (suc r) le (omega arith)).0), λ h. never h)
  term_fits lim {s = s} (bind {i = i} {a = m} d room e) b =
      let p = term_bound d b.1.1.1 in
      λ c r le less.
      let x = term_fits lim d b.1.1.1 c r le less in
      ((simple_fits (opens_simple m) lim m c r x.0 x.1, below_less lim i s r p.0 less room, (term_fits lim e p.1 c (suc r) le (omega arith)).0), λ h. never h)

  clauses_fit : (lim : Limits) {o s : ℕ} {c : Bool} {ts us : List Item} {cs : List tree.Clause} → Clauses lim o s c ts cs us → Bound ts → ClausesBelow lim o s c cs
  clauses_fit lim no_clause b = (λ c r le less. tt, λ h. never h)
  clauses_fit lim (fail_clause {w = w} {cs = cs} d) b =
      let x = clauses_fit lim d b in
      (λ c r le less. clauses_snoc lim cs (tree.FailClause (place_of w)) (suc c) r (x.0 c r le less) tt, λ h. clause_any cs (tree.FailClause (place_of w)))
  clauses_fit lim (free_clause {w = w} {cs = cs} {m = m} d e) b =
      let x = clauses_fit lim d b in
      let p = (clauses_bound d b).1.1 in
      (λ c r le less. clauses_snoc lim cs (tree.FreeClause (place_of w) m) (suc c) r (x.0 c r le less) (term_fits lim e p (suc c) r (omega arith) less).0, λ h. clause_any cs (tree.FreeClause (place_of w) m))
  clauses_fit lim {o = o} (receive_clause {w = w} {n = n} {v = v} {h = h} {x = y} {y = z} {cs = cs} {ns = ns} {m = m} d room bs e) b =
      let x = clauses_fit lim d b in
      let p = clauses_bound d b in
      let q = (optional_bound binder_bound bs p.1.1.1).1.1.1.1 in
      let k = tree.ReceiveClause (place_of w) _ ns _ m in
      (λ c r le less. clauses_snoc lim cs k (suc c) r (x.0 c r le less) (room_less lim v (suc o) 0 (suc c) 0 p.1.1.0 (omega arith) room, (term_fits lim e q (suc c) r (omega arith) less).0), λ h. clause_any cs k)

-- ---- types and declarations

abbrev pub TypeFits : Limits → ℕ → Bool → tree.WrittenType → Type 0
TypeFits lim o payload (tree.BaseType b at) = Unit {0}
TypeFits lim o payload (tree.MailboxType x q None at) = payload ≡ false
TypeFits lim o payload (tree.MailboxType x q (Some p) at) = PatternFits lim p o 0

abbrev pub MessageFits : Limits → tree.Message → Type 0
MessageFits lim m = RoomFor lim 1 0 × Each (TypeFits lim 2 true) m.payloads

abbrev pub ParamFits : Limits → tree.Param → Type 0
ParamFits lim p = TypeFits lim 1 false p.type

abbrev pub DeclFits : Limits → tree.Decl → Type 0
DeclFits lim (tree.InterfaceDecl x ms) = RoomFor lim 0 0 × (any ms ≡ true) × Each (MessageFits lim) ms
DeclFits lim (tree.DefDecl x ps a m) = RoomFor lim 0 0 × Each (ParamFits lim) ps × TypeFits lim 0 false a × TermFits lim m 1 0

type_fits : (lim : Limits) (o : ℕ) (p : Bool) (ts us : List Item) (a : tree.WrittenType) → WrittenType lim o p ts a us → Bound ts → TypeFits lim o p a
type_fits lim o p ts us a (base is) b = tt
type_fits lim o p ts us a (mailbox is d) b = (pattern_fits lim d b.1.1 o 0 (omega arith)).0
type_fits lim o p ts us a (short omitted is) b = omitted

separated_each : {A : Type 0} {One : List Item → A → List Item → Type 0} {ts us : List Item} {xs : List A} (P : A → Type 0) → ((vs ws : List Item) (a : A) → One vs a ws → Bound vs → Bound ws) → ((vs ws : List Item) (a : A) → One vs a ws → Bound vs → P a) → Separated One ts xs us → Bound ts → Each P xs × (any xs ≡ true)
separated_each P h g (one {ts = ts} {us = us} {a = a} d) b = ((g ts us a d b, tt), refl)
separated_each P h g (more {us = us} {vs = vs} {xs = xs} {a = a} d f) b = (each_snoc P xs a (separated_each P h g d b).0 (g us vs a f (separated_bound h d b).1), any_snoc xs a)

optional_each : {A : Type 0} {One : List Item → A → List Item → Type 0} {ts us : List Item} {xs : List A} (P : A → Type 0) → ((vs ws : List Item) (a : A) → One vs a ws → Bound vs → Bound ws) → ((vs ws : List Item) (a : A) → One vs a ws → Bound vs → P a) → Optional One ts xs us → Bound ts → Each P xs
optional_each P h g none b = tt
optional_each P h g (some d) b = (separated_each P h g d b).0

message_fits : (lim : Limits) (ts us : List Item) (m : tree.Message) → Message lim ts m us → Bound ts → MessageFits lim m
message_fits lim ts us m (message {v = v} room d) b = (room_less lim v 1 0 1 0 b.1.0 (omega arith) room, optional_each (TypeFits lim 2 true) (type_bound lim 2 true) (type_fits lim 2 true) d b.1.1)

param_fits : (lim : Limits) (ts us : List Item) (p : tree.Param) → Param lim ts p us → Bound ts → ParamFits lim p
param_fits lim ts us p (param {ts = vs} {us = ws} {a = a} d) b = type_fits lim 1 false vs ws a d b.1.1

pub decls_fit : (lim : Limits) {c : Bool} {ts us : List Item} {ds : List tree.Decl} → Decls lim c ts ds us → Bound ts → Each (DeclFits lim) ds × Bound us × (c ≡ true → any ds ≡ true)
decls_fit lim no_decl b = (tt, b, λ h. never h)
decls_fit lim (interface {v = v} {ds = ds} d room e) b =
    let x = decls_fit lim d b in
    let p = x.1.1.1 in
    let f = separated_each (MessageFits lim) (message_bound lim) (message_fits lim) e p.1 in
    (each_snoc (DeclFits lim) ds _ x.0 (room_less lim v 0 0 0 0 p.0 (omega arith) room, f.1, f.0), (separated_bound (message_bound lim) e p.1).1, λ h. any_snoc ds _)
decls_fit lim (function {v = v} {vs = vs} {xs = xs} {ds = ds} {r = r} d room ps t space e) b =
    let x = decls_fit lim d b in
    let p = x.1.1.1 in
    let q = (optional_bound (param_bound lim) ps p.1).1.1 in
    let k = type_bound lim 0 false vs _ r t q in
    (each_snoc (DeclFits lim) ds _ x.0 (room_less lim v 0 0 0 0 p.0 (omega arith) room, optional_each (ParamFits lim) (param_bound lim) (param_fits lim) ps p.1, type_fits lim 0 false vs _ r t q, (term_fits lim e k.1 1 0 (omega arith) (omega arith)).0), (term_bound e k.1).1, λ h. any_snoc ds _)
