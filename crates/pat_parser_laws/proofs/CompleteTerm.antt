-- What is a term by the grammar is read as it.
use Rattle.std.proofs.Common.{◌≡◌, ℕ, suc, ◌+◌, Bool, true, false, List, [], ◌∷◌, ◌++◌, Some, None, Ok, refl, ap, subst, ◌∙◌}
use Rattle.std.specs.Prelude.{not}
use Rattle.pat_lexer_spec.specs.Words as word
use Rattle.pat_lexer_spec.specs.Marks as mark
use Rattle.pat_lexer_spec.specs.Tokens.{Token, Name, Integer, Str, Word, Mark}
use Rattle.pat_parser_spec.specs.Trees as tree
use Rattle.pat_parser_spec.specs.Trees.{span, term_at, listed, operators, pattern_operators}
use Rattle.pat_parser_spec.specs.Items.{At, Item, place_of, named, Limits, literal, additive, comparison}
use Rattle.pat_parser_spec.specs.Grammar.{Level, Atom, Product, Sum, Whole, Operand, combined, Separated, one, more, Optional, none, some, Arg, Binder, binder, Part, Simple, Any, Term, value, print, new, spawn, free, send, call, branch, guard, block, simple, then, bind, Clauses, no_clause, fail_clause, free_clause, receive_clause}
use Rattle.pat_parser_spec.specs.Grammar as grammar
use Rattle.pat_parser_spec.specs.Grammar.{Expr}
use Rattle.pat_parser_spec.specs.Machine.{Pending, nothing, whole_of, whole_in, Head, ToCall, ToSend, head_from, made, Guarding, ClauseHead, NewName, FreeName, TagName, ReceiveName, BinderName, Frame, AtPattern, AtExpr, AtLet, AtBlock, AtGuard, InPrint, InArgs, InTest, InGuarded, InBound, InBody, InBlock, InYes, InNo, InSpawn, InFree, InReceive, Control, WantName, GotName, HavePattern, Start, Named, AfterPrint, AfterNew, AfterSpawn, AfterFree, AfterYes, AfterElse, AtClause, AfterFreeWord, FirstBinder, AfterBinders, FirstArg, Want, Have, Done, State, state, settle, bodies, clause_step, free_of, receive_of, next_clause, block_end, takes_next, then_next, done_step, move, step, run}
use Rattle.pat_parser_laws.proofs.Runs.{run_step, open_run, below_step}
use Rattle.pat_parser_laws.proofs.CompleteExpr.{starts, expr_starts, exprs}
use Rattle.pat_parser_laws.proofs.CompletePattern.{patterns}

-- a control at which a whole expression has been read
pub data Reads : Operand → ℕ → Control → Type 0 where
  is_named : (x : tree.Name) → Reads (tree.VarExpr x.text x.span, x.span.from) x.span.to (Named x)
  is_had : {a : Operand} {t : ℕ} (p : Pending) (x : Operand) → whole_of p x t ≡ a → Reads a t (Have p x t)

-- a control at which a simple term has been read
pub data Stands : tree.Term → ℕ → Control → Type 0 where
  is_value : {a : Operand} {t : ℕ} {c : Control} → Reads a t c → Stands (tree.ValueTerm a.0 (span a.1 t)) a.1 c
  is_done : (m : tree.Term) (f : ℕ) → Stands m f (Done m f)

abbrev pub ends_simple : Token → Bool
ends_simple (Mark mark.Semicolon) = true
ends_simple (Mark mark.CurlyClose) = true
ends_simple (Word word.In) = true
ends_simple (Word word.Fail) = true
ends_simple (Word word.Free) = true
ends_simple (Word word.Receive) = true
ends_simple _ = false

read_move : (fs : List Frame) (o k s : ℕ) {a : Operand} {t : ℕ} {c : Control} (b : Token) (w : tree.Span) → Reads a t c → ends_simple b ≡ true → move c fs o k s b w ≡ done_step fs o s (tree.ValueTerm a.0 (span a.1 t)) a.1 b w
read_move fs o k s (Mark mark.Semicolon) w (is_named x) h = refl
read_move fs o k s (Mark mark.CurlyClose) w (is_named x) h = refl
read_move fs o k s (Word word.In) w (is_named x) h = refl
read_move fs o k s (Word word.Fail) w (is_named x) h = refl
read_move fs o k s (Word word.Free) w (is_named x) h = refl
read_move fs o k s (Word word.Receive) w (is_named x) h = refl
read_move fs o k s _ w (is_named x) h = absurd cc
read_move fs o k s (Mark mark.Semicolon) w (is_had {t = t} p x is) h = ap (λ (v : Operand). done_step fs o s (tree.ValueTerm v.0 (span v.1 t)) v.1 (Mark mark.Semicolon) w) is
read_move fs o k s (Mark mark.CurlyClose) w (is_had {t = t} p x is) h = ap (λ (v : Operand). done_step fs o s (tree.ValueTerm v.0 (span v.1 t)) v.1 (Mark mark.CurlyClose) w) is
read_move fs o k s (Word word.In) w (is_had {t = t} p x is) h = ap (λ (v : Operand). done_step fs o s (tree.ValueTerm v.0 (span v.1 t)) v.1 (Word word.In) w) is
read_move fs o k s (Word word.Fail) w (is_had {t = t} p x is) h = ap (λ (v : Operand). done_step fs o s (tree.ValueTerm v.0 (span v.1 t)) v.1 (Word word.Fail) w) is
read_move fs o k s (Word word.Free) w (is_had {t = t} p x is) h = ap (λ (v : Operand). done_step fs o s (tree.ValueTerm v.0 (span v.1 t)) v.1 (Word word.Free) w) is
read_move fs o k s (Word word.Receive) w (is_had {t = t} p x is) h = ap (λ (v : Operand). done_step fs o s (tree.ValueTerm v.0 (span v.1 t)) v.1 (Word word.Receive) w) is
read_move fs o k s _ w (is_had p x is) h = absurd cc

pub stands_move : (fs : List Frame) (o k s : ℕ) {m : tree.Term} {f : ℕ} {c : Control} (b : Token) (w : tree.Span) → Stands m f c → ends_simple b ≡ true → move c fs o k s b w ≡ done_step fs o s m f b w
stands_move fs o k s b w (is_value r) h = read_move fs o k s b w r h
stands_move fs o k s b w (is_done m f) h = refl

pub stands_step : (lim : Limits) (fs : List Frame) (o k s : ℕ) {m : tree.Term} {f : ℕ} {c : Control} (b : Token) (w : At) → Stands m f c → ends_simple b ≡ true → step lim (state c fs o k s) (b, w) ≡ settle lim w.free (done_step fs o s m f b (place_of w))
stands_step lim fs o k s b w r h = ap (settle lim w.free) (stands_move fs o k s b (place_of w) r h)

-- ---- an expression where a term begins

-- an expression that is a name alone, or is read where a term begins as where an operand is wanted
data FromStart (lim : Limits) : List Item → Operand → ℕ → List Item → Type 0 where
  lone : {us : List Item} (x : List ℕ) (w : At) → FromStart lim ((Name x, w) ∷ us) (tree.VarExpr x (place_of w), w.from) w.to us
  other : {ts us : List Item} {a : Operand} {t : ℕ} → ((fs : List Frame) (o s : ℕ) (b : Bool) → run lim (state (Start b) fs o 0 s) ts ≡ run lim (state (Want nothing) fs o 0 s) ts) → FromStart lim ts a t us

abbrev is_operator : Token → Bool
is_operator (Mark mark.Star) = true
is_operator (Mark mark.Plus) = true
is_operator (Mark mark.Minus) = true
is_operator (Mark mark.DoubleEquals) = true
is_operator (Mark mark.Less) = true
is_operator _ = false

lone_run : (lim : Limits) (x : List ℕ) (w : At) (c : Token) (v : At) (us : List Item) → is_operator c ≡ true → (fs : List Frame) (o s : ℕ) (b : Bool) → run lim (state (Start b) fs o 0 s) ((Name x, w) ∷ (c, v) ∷ us) ≡ run lim (state (Want nothing) fs o 0 s) ((Name x, w) ∷ (c, v) ∷ us)
lone_run lim x w (Mark mark.Star) v us h fs o s b = refl
lone_run lim x w (Mark mark.Plus) v us h fs o s b = refl
lone_run lim x w (Mark mark.Minus) v us h fs o s b = refl
lone_run lim x w (Mark mark.DoubleEquals) v us h fs o s b = refl
lone_run lim x w (Mark mark.Less) v us h fs o s b = refl
lone_run lim x w _ v us h fs o s b = absurd cc

-- an operator follows: it is more than a name
after_operator : {lim : Limits} {ts us vs : List Item} {a b : Operand} {r t : ℕ} (c : Token) (v : At) → is_operator c ≡ true → FromStart lim ts a r ((c, v) ∷ us) → FromStart lim ts b t vs
after_operator {lim = lim} {us = us} c v h (lone x w) = other (lone_run lim x w c v us h)
after_operator c v h (other f) = other f

additive_is : (c : Token) (op : _) → additive c ≡ Some op → is_operator c ≡ true
additive_is (Mark mark.Plus) op h = refl
additive_is (Mark mark.Minus) op h = refl
additive_is _ op h = absurd cc

comparison_is : (c : Token) (op : _) → comparison c ≡ Some op → is_operator c ≡ true
comparison_is (Mark mark.DoubleEquals) op h = refl
comparison_is (Mark mark.Less) op h = refl
comparison_is _ op h = absurd cc

leaf_from_start : (lim : Limits) (c : Token) (w : At) (us : List Item) (e : tree.Expr) → literal c (place_of w) ≡ Some e → FromStart lim ((c, w) ∷ us) (e, w.from) w.to us
leaf_from_start lim (Name x) w us e h =
    let g : tree.VarExpr x (place_of w) ≡ e = cc in
    subst (λ (v : tree.Expr). FromStart lim ((Name x, w) ∷ us) (v, w.from) w.to us) g (lone x w)
leaf_from_start lim (Integer n) w us e h = other (λ fs o s b. refl)
leaf_from_start lim (Str x) w us e h = other (λ fs o s b. refl)
leaf_from_start lim (Word word.TrueWord) w us e h = other (λ fs o s b. refl)
leaf_from_start lim (Word word.FalseWord) w us e h = other (λ fs o s b. refl)
leaf_from_start lim _ w us e h = absurd cc

expr_from_start : {lim : Limits} {o k t : ℕ} {l : Level} {ts us : List Item} {a : Operand} → Expr lim o k l ts a t us → FromStart lim ts a t us
expr_from_start {lim = lim} (grammar.Expr.leaf {c = c} {w = w} {us = us} {e = e} h) = leaf_from_start lim c w us e h
expr_from_start (grammar.Expr.unit room) = other (λ fs o s b. refl)
expr_from_start (grammar.Expr.bracket room d) = other (λ fs o s b. refl)
expr_from_start (grammar.Expr.atom d) = expr_from_start d
expr_from_start (grammar.Expr.times {w = w} d room f) = after_operator (Mark mark.Star) w refl (expr_from_start d)
expr_from_start (grammar.Expr.product d) = expr_from_start d
expr_from_start (grammar.Expr.plus {c = c} {op = op} {w = w} is d room f) = after_operator c w (additive_is c op is) (expr_from_start d)
expr_from_start (grammar.Expr.sum d) = expr_from_start d
expr_from_start (grammar.Expr.compare {c = c} {op = op} {w = w} is d room f) = after_operator c w (comparison_is c op is) (expr_from_start d)

abbrev ReadsHere : Limits → ℕ → ℕ → List Frame → Bool → List Item → Operand → ℕ → List Item → Type 0
ReadsHere lim o s fs b ts a t us = (c : Control) × (k : ℕ) × (run lim (state (Start b) fs o 0 s) ts ≡ run lim (state c fs o k s) us) × Reads a t c

read_here : (lim : Limits) (o s : ℕ) (fs : List Frame) (b : Bool) {ts us : List Item} {a : Operand} {t : ℕ} → FromStart lim ts a t us → Expr lim o 0 Whole ts a t us → ReadsHere lim o s fs b ts a t us
read_here lim o s fs b (lone x w) d = (Named (named x w), 0, refl, is_named (named x w))
read_here lim o s fs b {a = a} {t = t} (other f) d =
    let h = exprs lim d fs s in
    (Have h.0 h.1 t, 0 + operators a.0, f fs o s b ∙ h.2, is_had h.0 h.1 h.3)

-- ---- arguments

first_run : (lim : Limits) (fs : List Frame) (h : Head) (o1 o k s : ℕ) (ts : List Item) → starts ts ≡ true → run lim (state FirstArg (AtExpr (InArgs h [] o1) ∷ fs) o k s) ts ≡ run lim (state (Want nothing) (AtExpr (InArgs h [] o1) ∷ fs) o k s) ts
first_run lim fs g o1 o k s [] h = absurd cc
first_run lim fs g o1 o k s ((Mark mark.RoundClose, w) ∷ ts) h = absurd cc
first_run lim fs g o1 o k s ((_, w) ∷ ts) h = refl

args_run : (lim : Limits) (h : Head) (fs : List Frame) (o1 s : ℕ) {o : ℕ} {ts us : List Item} {es : List tree.Expr} → Separated (Arg lim o) ts es us
    → (gs : List tree.Expr) × (p : Pending) × (x : Operand) × (t : ℕ) × (k : ℕ) × (run lim (state FirstArg (AtExpr (InArgs h [] o1) ∷ fs) o 0 s) ts ≡ run lim (state (Have p x t) (AtExpr (InArgs h gs o1) ∷ fs) o k s) us) × (gs ++ (whole_of p x t).0 ∷ [] ≡ es)
args_run lim h fs o1 s {o = o} {ts = ts} (one {a = e} d) =
    let r = exprs lim d.2 (AtExpr (InArgs h [] o1) ∷ fs) s in
    ([], r.0, r.1, d.1, 0 + operators e, first_run lim fs h o1 o 0 s ts (expr_starts d.2) ∙ r.2, ap (λ (v : Operand). v.0 ∷ []) r.3)
args_run lim h fs o1 s {o = o} {ts = ts} (more {w = w} {us = us} {vs = vs} {xs = es} {a = e} d f) =
    let a = args_run lim h fs o1 s d in
    let r = exprs lim f.2 (AtExpr (InArgs h es o1) ∷ fs) s in
    let comma : step lim (state (Have a.1 a.2 a.3) (AtExpr (InArgs h a.0 o1) ∷ fs) o a.4 s) (Mark mark.Comma, w) ≡ Ok (state (Want nothing) (AtExpr (InArgs h es o1) ∷ fs) o 0 s) = ap (λ (v : List tree.Expr). Ok (state (Want nothing) (AtExpr (InArgs h v o1) ∷ fs) o 0 s)) a.6 in
    (es, r.0, r.1, f.1, 0 + operators e, a.5 ∙ run_step lim (state (Have a.1 a.2 a.3) (AtExpr (InArgs h a.0 o1) ∷ fs) o a.4 s) (state (Want nothing) (AtExpr (InArgs h es o1) ∷ fs) o 0 s) (Mark mark.Comma, w) us comma ∙ r.2, ap (λ (v : Operand). es ++ v.0 ∷ []) r.3)

-- arguments and the bracket behind them
args_close : (lim : Limits) (h : Head) (fs : List Frame) (o1 s : ℕ) {o : ℕ} {ts us : List Item} {es : List tree.Expr} (z : At) → Optional (Arg lim o) ts es ((Mark mark.RoundClose, z) ∷ us)
    → run lim (state FirstArg (AtExpr (InArgs h [] o1) ∷ fs) o 0 s) ts ≡ run lim (state (Done (made h es z.to) (head_from h)) fs o1 0 s) us
args_close lim h fs o1 s z none = refl
args_close lim h fs o1 s {o = o} {us = us} z (some d) =
    let a = args_run lim h fs o1 s d in
    a.5 ∙ ap (λ (v : List tree.Expr). run lim (state (Done (made h v z.to) (head_from h)) fs o1 0 s) us) a.6

-- ---- names that a clause binds

abbrev pub head : Guarding → tree.Span → tree.Name → List tree.Name → ClauseHead
head g a x ns = record { guard = g; word = a; tag = x; names = ns }

binders_run : (lim : Limits) (g : Guarding) (a : tree.Span) (x : tree.Name) (fs : List Frame) (o s : ℕ) {ts us : List Item} {ns : List tree.Name} → Separated Binder ts ns us
    → (ms : List tree.Name) × (n : tree.Name) × (run lim (state (FirstBinder (head g a x [])) fs o 0 s) ts ≡ run lim (state (GotName (BinderName (head g a x ms)) n) fs o 0 s) us) × (ms ++ n ∷ [] ≡ ns)
binders_run lim g a x fs o s (one (binder {x = y} {w = w})) = ([], named y w, refl, refl)
binders_run lim g a x fs o s (more {w = v} {xs = ns} d (binder {x = y} {w = w} {us = us})) =
    let h = binders_run lim g a x fs o s d in
    (ns, named y w, h.2 ∙ ap (λ (q : List tree.Name). run lim (state (WantName (BinderName (head g a x q))) fs o 0 s) ((Name y, w) ∷ us)) h.3, refl)

binders_close : (lim : Limits) (g : Guarding) (a : tree.Span) (x : tree.Name) (fs : List Frame) (o s : ℕ) {ts us : List Item} {ns : List tree.Name} (z : At) → s ≡ g.statements → Optional Binder ts ns ((Mark mark.RoundClose, z) ∷ us)
    → run lim (state (FirstBinder (head g a x [])) fs o 0 s) ts ≡ run lim (state (AfterBinders (head g a x ns)) fs g.inside 0 s) us
binders_close lim g a x fs o s z is none = refl
binders_close lim g a x fs o s {us = us} z is (some d) =
    let h = binders_run lim g a x fs o s d in
    h.2 ∙ ap (λ (q : List tree.Name). run lim (state (AfterBinders (head g a x q)) fs g.inside 0 s) us) h.3

-- ---- terms

-- what is read of a term: the last simple term stands, over bodies that still wait
pub record Reached (lim : Limits) (fs : List Frame) (o s : ℕ) (ts : List Item) (m : tree.Term) (us : List Item) : Type 0 where
  pub control : Control
  pub stack : List Frame
  pub operators : ℕ
  pub statements : ℕ
  pub last : tree.Term
  pub from : ℕ
  pub runs : run lim (state (Start true) fs o 0 s) ts ≡ run lim (state control stack o operators statements) us
  pub stands : Stands last from control
  pub same : bodies stack last ≡ bodies fs m

abbrev pub ReadsTerm : Limits → ℕ → ℕ → Part → List Item → tree.Term → ℕ → List Item → Type 0
ReadsTerm lim o s Simple ts m f us = (fs : List Frame) (b : Bool) → (c : Control) × (k : ℕ) × (run lim (state (Start b) fs o 0 s) ts ≡ run lim (state c fs o k s) us) × Stands m f c
ReadsTerm lim o s Any ts m f us = (fs : List Frame) → takes_next fs ≡ true → Reached lim fs o s ts m us

abbrev pub guarding : tree.Name → tree.Pattern → ℕ → ℕ → ℕ → List tree.Clause → Guarding
guarding x p f o s cs = record { mailbox = x; pattern = p; from = f; opened = o; inside = suc o; statements = s; clauses = cs }

abbrev pub ends_clause : Token → Bool
ends_clause (Mark mark.CurlyClose) = true
ends_clause (Word word.Fail) = true
ends_clause (Word word.Free) = true
ends_clause (Word word.Receive) = true
ends_clause _ = false

-- what is read of clauses: a state that goes on as one between clauses does
pub record ReachedClauses (lim : Limits) (fs : List Frame) (o s : ℕ) (x : tree.Name) (p : tree.Pattern) (f : ℕ) (b : Bool) (ts : List Item) (cs : List tree.Clause) (us : List Item) : Type 0 where
  pub after : State
  pub runs : run lim (state (AtClause true (guarding x p f o s [])) fs (suc o) 0 s) ts ≡ run lim after us
  pub goes : (c : Token) (w : At) → ends_clause c ≡ true → step lim after (c, w) ≡ settle lim w.free (clause_step (not b) fs (guarding x p f o s cs) c (place_of w))

abbrev pub ReadsClauses : Limits → ℕ → ℕ → Bool → List Item → List tree.Clause → List Item → Type 0
ReadsClauses lim o s b ts cs us = (fs : List Frame) (x : tree.Name) (p : tree.Pattern) (f : ℕ) → ReachedClauses lim fs o s x p f b ts cs us

-- a block, up to its brace
pub closed : (lim : Limits) {fs : List Frame} {o s : ℕ} {ts us : List Item} {m : tree.Term} (z : At) (y : State) → Reached lim fs o s ts m ((Mark mark.CurlyClose, z) ∷ us) → settle lim z.free (block_end (bodies fs m).0 (bodies fs m).1 (place_of z)) ≡ Ok y
    → run lim (state (Start true) fs o 0 s) ts ≡ run lim y us
closed lim {o = o} {us = us} z y r h =
    r.runs ∙ run_step lim (state r.control r.stack o r.operators r.statements) y (Mark mark.CurlyClose, z) us (stands_step lim r.stack o r.operators r.statements (Mark mark.CurlyClose) z r.stands refl ∙ ap (λ (q : List Frame × tree.Term). settle lim z.free (block_end q.0 q.1 (place_of z))) r.same ∙ h)

-- the body of a clause, up to what ends it
body_goes : (lim : Limits) {fs : List Frame} {o s : ℕ} {ts us : List Item} {m : tree.Term} (gs : List Frame) (g : Guarding) (r : Reached lim fs o s ts m us) → ((c : Token) (w : tree.Span) → next_clause (bodies fs m).0 (bodies fs m).1 c w ≡ clause_step false gs g c w) → ((w : tree.Span) → block_end (bodies fs m).0 (bodies fs m).1 w ≡ clause_step false gs g (Mark mark.CurlyClose) w)
    → (c : Token) (w : At) → ends_clause c ≡ true → step lim (state r.control r.stack o r.operators r.statements) (c, w) ≡ settle lim w.free (clause_step false gs g c (place_of w))
body_goes lim {o = o} gs g r next end (Mark mark.CurlyClose) w h = ap (settle lim w.free) (stands_move r.stack o r.operators r.statements (Mark mark.CurlyClose) (place_of w) r.stands refl ∙ ap (λ (q : List Frame × tree.Term). block_end q.0 q.1 (place_of w)) r.same ∙ end (place_of w))
body_goes lim {o = o} gs g r next end (Word word.Fail) w h = ap (settle lim w.free) (stands_move r.stack o r.operators r.statements (Word word.Fail) (place_of w) r.stands refl ∙ ap (λ (q : List Frame × tree.Term). next_clause q.0 q.1 (Word word.Fail) (place_of w)) r.same ∙ next (Word word.Fail) (place_of w))
body_goes lim {o = o} gs g r next end (Word word.Free) w h = ap (settle lim w.free) (stands_move r.stack o r.operators r.statements (Word word.Free) (place_of w) r.stands refl ∙ ap (λ (q : List Frame × tree.Term). next_clause q.0 q.1 (Word word.Free) (place_of w)) r.same ∙ next (Word word.Free) (place_of w))
body_goes lim {o = o} gs g r next end (Word word.Receive) w h = ap (settle lim w.free) (stands_move r.stack o r.operators r.statements (Word word.Receive) (place_of w) r.stands refl ∙ ap (λ (q : List Frame × tree.Term). next_clause q.0 q.1 (Word word.Receive) (place_of w)) r.same ∙ next (Word word.Receive) (place_of w))
body_goes lim gs g r next end _ w h = absurd cc

mutual
  pub terms : (lim : Limits) {o s f : ℕ} {l : Part} {ts us : List Item} {m : tree.Term} → Term lim o s l ts m f us → ReadsTerm lim o s l ts m f us
  terms lim {o = o} {s = s} (value d) = λ fs b.
      let r = read_here lim o s fs b (expr_from_start d) d in
      (r.0, r.1, r.2, is_value r.3)
  terms lim {o = o} {s = s} (print {w = w} {v = v} {z = z} {ts = ts} {us = us} {a = a} room d) = λ fs b.
      let h = exprs lim d (AtExpr (InPrint w.from o) ∷ fs) s in
      let m = tree.PrintTerm a.0 (span w.from z.to) in (
        Done m w.from,
        0,
        open_run lim (state (AfterPrint w.from) fs o 0 s) (state (Want nothing) (AtExpr (InPrint w.from o) ∷ fs) (suc o) 0 s) (Mark mark.RoundOpen, v) v o 0 ts refl room
            ∙ h.2 ∙ ap (λ (q : Operand). run lim (state (Done (tree.PrintTerm q.0 (span w.from z.to)) w.from) fs o 0 s) us) h.3,
        is_done m w.from,
      )
  terms lim {o = o} {s = s} (new {w = w} {v = v} {n = n} {z = z} {x = x} {us = us} room) = λ fs b.
      let m = tree.NewTerm (named x n) (span w.from z.to) in (
        Done m w.from,
        0,
        open_run lim (state (AfterNew w.from) fs o 0 s) (state (WantName (NewName w.from o)) fs (suc o) 0 s) (Mark mark.SquareOpen, v) v o 0 ((Name x, n) ∷ (Mark mark.SquareClose, z) ∷ us) refl room,
        is_done m w.from,
      )
  terms lim {o = o} {s = s} (spawn {w = w} {v = v} {z = z} {ts = ts} {us = us} {m = m} room d) = λ fs b.
      let gs = AtBlock (InSpawn w.from o s) ∷ fs in
      let n = tree.SpawnTerm m (span w.from z.to) in (
        Done n w.from,
        0,
        open_run lim (state (AfterSpawn w.from) fs o 0 s) (state (Start true) gs (suc o) 0 s) (Mark mark.CurlyOpen, v) v o 0 ts refl room
            ∙ closed lim z (state (Done n w.from) fs o 0 s) (terms lim d gs refl) refl,
        is_done n w.from,
      )
  terms lim {o = o} {s = s} (free {w = w} {v = v} {n = n} {z = z} {x = x} {us = us} room) = λ fs b.
      let m = tree.FreeTerm (named x n) (span w.from z.to) in (
        Done m w.from,
        0,
        open_run lim (state (AfterFree w.from) fs o 0 s) (state (WantName (FreeName w.from o)) fs (suc o) 0 s) (Mark mark.RoundOpen, v) v o 0 ((Name x, n) ∷ (Mark mark.RoundClose, z) ∷ us) refl room,
        is_done m w.from,
      )
  terms lim {o = o} {s = s} (send {a = a} {b = i} {c = c} {v = v} {z = z} {x = x} {y = y} {ts = ts} {us = us} {es = es} room d) = λ fs b.
      let h = ToSend (named x a) (named y c) in (
        Done (made h es z.to) a.from,
        0,
        open_run lim (state (GotName (TagName (named x a)) (named y c)) fs o 0 s) (state FirstArg (AtExpr (InArgs h [] o) ∷ fs) (suc o) 0 s) (Mark mark.RoundOpen, v) v o 0 ts refl room ∙ args_close lim h fs o s z d,
        is_done (made h es z.to) a.from,
      )
  terms lim {o = o} {s = s} (call {a = a} {v = v} {z = z} {x = x} {ts = ts} {us = us} {es = es} room d) = λ fs b.
      let h = ToCall (named x a) in (
        Done (made h es z.to) a.from,
        0,
        open_run lim (state (Named (named x a)) fs o 0 s) (state FirstArg (AtExpr (InArgs h [] o) ∷ fs) (suc o) 0 s) (Mark mark.RoundOpen, v) v o 0 ts refl room ∙ args_close lim h fs o s z d,
        is_done (made h es z.to) a.from,
      )
  terms lim {o = o} {s = s} (branch {t = t} {w = w} {v = v} {c = c} {l = l} {d = e} {z = z} {us = us} {vs = vs} {xs = xs} {a = a} {m = m} {n = n} d room f more_room g) = λ fs b.
      let h = exprs lim d (AtExpr (InTest w.from) ∷ fs) s in
      let yes = AtBlock (InYes a.0 w.from o s) ∷ fs in
      let no = AtBlock (InNo a.0 m w.from o s) ∷ fs in
      let whole = tree.IfTerm a.0 m n (span w.from z.to) in
      let into = open_run lim (state (Have h.0 h.1 t) (AtExpr (InTest w.from) ∷ fs) o (0 + operators a.0) s) (state (Start true) (AtBlock (InYes (whole_of h.0 h.1 t).0 w.from o s) ∷ fs) (suc o) 0 s) (Mark mark.CurlyOpen, v) v o 0 us refl room in (
        Done whole w.from,
        0,
        h.2 ∙ into ∙ ap (λ (q : Operand). run lim (state (Start true) (AtBlock (InYes q.0 w.from o s) ∷ fs) (suc o) 0 s) us) h.3
            ∙ closed lim c (state (AfterYes a.0 m w.from) fs o 0 s) (terms lim f yes refl) refl
            ∙ open_run lim (state (AfterElse a.0 m w.from) fs o 0 s) (state (Start true) no (suc o) 0 s) (Mark mark.CurlyOpen, e) e o 0 vs refl more_room
            ∙ closed lim z (state (Done whole w.from) fs o 0 s) (terms lim g no refl) refl,
        is_done whole w.from,
      )
  terms lim {o = o} {s = s} (guard {t = t} {w = w} {n = n} {c = c} {v = v} {z = z} {x = x} {ts = ts} {us = us} {vs = vs} {p = p} {cs = cs} d room f) = λ fs b.
      let h = patterns lim d (AtPattern (InGuarded (named x n) w.from) ∷ fs) s in
      let r = clauses lim f fs (named x n) p w.from in
      let m = tree.GuardTerm (named x n) p (listed cs) (span w.from z.to) in
      let into = open_run lim (state (HavePattern h.0 h.1 t) (AtPattern (InGuarded (named x n) w.from) ∷ fs) o (0 + pattern_operators p) s) (state (AtClause true (guarding (named x n) (whole_in h.0 h.1) w.from o s [])) fs (suc o) 0 s) (Mark mark.CurlyOpen, v) v o 0 us refl room in (
        Done m w.from,
        0,
        h.2 ∙ into ∙ ap (λ (q : tree.Pattern). run lim (state (AtClause true (guarding (named x n) q w.from o s [])) fs (suc o) 0 s) us) h.3
            ∙ r.runs ∙ run_step lim r.after (state (Done m w.from) fs o 0 s) (Mark mark.CurlyClose, z) vs (r.goes (Mark mark.CurlyClose) z refl),
        is_done m w.from,
      )
  terms lim {o = o} {s = s} (block {w = w} {z = z} {ts = ts} {us = us} {m = m} room d) = λ fs b.
      let gs = AtBlock (InBlock w.from o s) ∷ fs in (
        Done m w.from,
        0,
        open_run lim (state (Start b) fs o 0 s) (state (Start true) gs (suc o) 0 s) (Mark mark.CurlyOpen, w) w o 0 ts refl room
            ∙ closed lim z (state (Done m w.from) fs o 0 s) (terms lim d gs refl) refl,
        is_done m w.from,
      )
  terms lim {o = o} {s = s} {f = f} {m = m} (simple d) = λ fs nx.
      let h = terms lim d fs true in
      record { control = h.0; stack = fs; operators = h.1; statements = s; last = m; from = f; runs = h.2; stands = h.3; same = refl }
  terms lim {o = o} {s = s} (then {f = f} {w = w} {us = us} {m = m} {n = n} d room e) = λ fs nx.
      let h = terms lim d fs true in
      let gs = AtLet (InBody None m f) ∷ fs in
      let g = terms lim e gs refl in
      let y = state (Start true) gs o 0 (suc s) in
      let next = run_step lim (state h.0 fs o h.1 s) y (Mark mark.Semicolon, w) us (stands_step lim fs o h.1 s (Mark mark.Semicolon) w h.3 refl ∙ ap (λ (b : Bool). settle lim w.free (then_next b fs o s m f)) nx ∙ below_step lim w s y room) in
      record { control = g.control; stack = g.stack; operators = g.operators; statements = g.statements; last = g.last; from = g.from; runs = h.2 ∙ next ∙ g.runs; stands = g.stands; same = g.same }
  terms lim {o = o} {s = s} (bind {w = w} {n = n} {c = c} {i = i} {x = x} {ts = ts} {us = us} {a = a} {b = b} d room e) = λ fs nx.
      let bs = AtLet (InBound (named x n) w.from) ∷ fs in
      let h = terms lim d bs false in
      let gs = AtLet (InBody (Some (named x n)) a w.from) ∷ fs in
      let g = terms lim e gs refl in
      let y = state (Start true) gs o 0 (suc s) in
      let next = run_step lim (state h.0 bs o h.1 s) y (Word word.In, i) us (stands_step lim bs o h.1 s (Word word.In) i h.3 refl ∙ below_step lim i s y room) in
      record { control = g.control; stack = g.stack; operators = g.operators; statements = g.statements; last = g.last; from = g.from; runs = h.2 ∙ next ∙ g.runs; stands = g.stands; same = g.same }

  pub clauses : (lim : Limits) {o s : ℕ} {b : Bool} {ts us : List Item} {cs : List tree.Clause} → Clauses lim o s b ts cs us → ReadsClauses lim o s b ts cs us
  clauses lim {o = o} {s = s} no_clause = λ fs x p f. record { after = state (AtClause true (guarding x p f o s [])) fs (suc o) 0 s; runs = refl; goes = λ c w h. refl }
  clauses lim {o = o} {s = s} (fail_clause {b = b} {w = w} {us = us} {cs = cs} d) = λ fs x p f.
      let r = clauses lim d fs x p f in
      let y = state (AtClause false (guarding x p f o s (cs ++ tree.FailClause (place_of w) ∷ []))) fs (suc o) 0 s in
      record { after = y; runs = r.runs ∙ run_step lim r.after y (Word word.Fail, w) us (r.goes (Word word.Fail) w refl); goes = λ c v h. refl }
  clauses lim {o = o} {s = s} (free_clause {w = w} {a = a} {us = us} {vs = vs} {cs = cs} {m = m} d e) = λ fs x p f.
      let r = clauses lim d fs x p f in
      let g = guarding x p f o s cs in
      let t = terms lim e (AtGuard (InFree g (place_of w)) ∷ fs) refl in
      let y = state (AfterFreeWord g (place_of w)) fs (suc o) 0 s in
      record {
        after = state t.control t.stack (suc o) t.operators t.statements;
        runs = r.runs ∙ run_step lim r.after y (Word word.Free, w) ((Mark mark.Arrow, a) ∷ us) (r.goes (Word word.Free) w refl) ∙ t.runs;
        goes = body_goes lim fs (free_of g (place_of w) m) t (λ c v. refl) (λ v. refl);
      }
  clauses lim {o = o} {s = s} (receive_clause {w = w} {n = n} {v = v} {z = z} {r = r} {h = h} {a = a} {x = x} {y = y} {us = us} {vs = vs} {xs = xs} {cs = cs} {ns = ns} {m = m} d room e i) = λ fs q p f.
      let b = clauses lim d fs q p f in
      let g = guarding q p f o s cs in
      let hd = head g (place_of w) (named x n) in
      let t = terms lim i (AtGuard (InReceive (hd ns) (named y h)) ∷ fs) refl in
      let y0 = state (WantName (ReceiveName g (place_of w))) fs (suc o) 0 s in
      record {
        after = state t.control t.stack (suc o) t.operators t.statements;
        runs = b.runs ∙ run_step lim b.after y0 (Word word.Receive, w) ((Name x, n) ∷ (Mark mark.RoundOpen, v) ∷ us) (b.goes (Word word.Receive) w refl)
            ∙ open_run lim (state (GotName (ReceiveName g (place_of w)) (named x n)) fs (suc o) 0 s) (state (FirstBinder (hd [])) fs (suc (suc o)) 0 s) (Mark mark.RoundOpen, v) v (suc o) 0 us refl room
            ∙ binders_close lim g (place_of w) (named x n) fs (suc (suc o)) s z refl e ∙ t.runs;
        goes = body_goes lim fs (receive_of (hd ns) (named y h) m) t (λ c v. refl) (λ v. refl);
      }
