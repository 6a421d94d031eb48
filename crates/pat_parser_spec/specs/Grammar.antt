-- Which tokens spell which tree. Each relation reads from the front of a list of tokens and says which tokens are left.
-- o brackets, k operators and s statements are open before what is read.
use Rattle.std.specs.Prelude.{◌≡◌, ℕ, ℤ, suc, ◌+◌, Bool, true, false, List, [], ◌∷◌, ◌++◌, Some, None}
use Rattle.pat_lexer_spec.specs.Words as word
use Rattle.pat_lexer_spec.specs.Marks as mark
use Rattle.pat_lexer_spec.specs.Tokens.{Token, Name, Integer, Word, Mark}
use Rattle.pat_semantics_spec.specs.Values.{Base, Op, Mul}
use Rattle.pat_semantics_spec.specs.Programs.{Polarity}
use Rattle.pat_parser_spec.specs.Trees as tree
use Rattle.pat_parser_spec.specs.Trees.{span, term_at, listed, operators, pattern_operators}
use Rattle.pat_parser_spec.specs.Items.{At, Item, place_of, named, Limits, Room, RoomBelow, literal, constant, additive, comparison, base_named, polarity_of}

-- how tightly an expression or a pattern holds together
pub data Level : Type 0 where
  Atom : Level
  Product : Level
  Sum : Level
  Whole : Level

-- an expression, and the offset at which its text begins, brackets included
abbrev pub Operand : Type 0
Operand = tree.Expr × ℕ

-- two operands and the operator between them; the text ends at the offset t
abbrev pub combined : Op → Operand → Operand → ℕ → Operand
combined op a b t = (tree.OpExpr op a.0 b.0 (span a.1 t), a.1)

-- the tokens begin with an expression; its text ends at the offset t
pub data Expr (lim : Limits) : ℕ → ℕ → Level → List Item → Operand → ℕ → List Item → Type 0 where
  leaf : {o k : ℕ} {c : Token} {w : At} {us : List Item} {e : tree.Expr} → literal c (place_of w) ≡ Some e → Expr lim o k Atom ((c, w) ∷ us) (e, w.from) w.to us
  unit : {o k : ℕ} {w z : At} {us : List Item} → Room lim w o k → Expr lim o k Atom ((Mark mark.RoundOpen, w) ∷ (Mark mark.RoundClose, z) ∷ us) (tree.UnitExpr (span w.from z.to), w.from) z.to us
  bracket : {o k t : ℕ} {w z : At} {ts us : List Item} {a : Operand} → Room lim w o k → Expr lim (suc o) k Whole ts a t ((Mark mark.RoundClose, z) ∷ us) → Expr lim o k Atom ((Mark mark.RoundOpen, w) ∷ ts) (a.0, w.from) z.to us
  atom : {o k t : ℕ} {ts us : List Item} {a : Operand} → Expr lim o k Atom ts a t us → Expr lim o k Product ts a t us
  times : {o k r t : ℕ} {w : At} {ts us vs : List Item} {a b : Operand} → Expr lim o k Product ts a r ((Mark mark.Star, w) ∷ us) → Room lim w o (k + operators a.0) → Expr lim o (suc (k + operators a.0)) Atom us b t vs → Expr lim o k Product ts (combined Mul a b t) t vs
  product : {o k t : ℕ} {ts us : List Item} {a : Operand} → Expr lim o k Product ts a t us → Expr lim o k Sum ts a t us
  plus : {o k r t : ℕ} {c : Token} {op : Op} {w : At} {ts us vs : List Item} {a b : Operand} → additive c ≡ Some op → Expr lim o k Sum ts a r ((c, w) ∷ us) → Room lim w o (k + operators a.0) → Expr lim o (suc (k + operators a.0)) Product us b t vs → Expr lim o k Sum ts (combined op a b t) t vs
  sum : {o k t : ℕ} {ts us : List Item} {a : Operand} → Expr lim o k Sum ts a t us → Expr lim o k Whole ts a t us
  compare : {o k r t : ℕ} {c : Token} {op : Op} {w : At} {ts us vs : List Item} {a b : Operand} → comparison c ≡ Some op → Expr lim o k Sum ts a r ((c, w) ∷ us) → Room lim w o (k + operators a.0) → Expr lim o (suc (k + operators a.0)) Sum us b t vs → Expr lim o k Whole ts (combined op a b t) t vs

-- the tokens begin with a pattern; its text ends at the offset t. A factor is an Atom here
pub data Pattern (lim : Limits) : ℕ → ℕ → Level → List Item → tree.Pattern → ℕ → List Item → Type 0 where
  number : {o k : ℕ} {n : ℤ} {w : At} {us : List Item} {p : tree.Pattern} → constant n (place_of w) ≡ Some p → Pattern lim o k Atom ((Integer n, w) ∷ us) p w.to us
  tag : {o k : ℕ} {x : List ℕ} {w : At} {us : List Item} → Pattern lim o k Atom ((Name x, w) ∷ us) (tree.TagPattern (named x w)) w.to us
  bracket : {o k t : ℕ} {w z : At} {ts us : List Item} {p : tree.Pattern} → Room lim w o k → Pattern lim (suc o) k Whole ts p t ((Mark mark.RoundClose, z) ∷ us) → Pattern lim o k Atom ((Mark mark.RoundOpen, w) ∷ ts) p z.to us
  star : {o k t : ℕ} {w : At} {ts us : List Item} {p : tree.Pattern} → Room lim w o k → Pattern lim o (suc k) Atom ts p t us → Pattern lim o k Atom ((Mark mark.Star, w) ∷ ts) (tree.StarPattern p) t us
  factor : {o k t : ℕ} {ts us : List Item} {p : tree.Pattern} → Pattern lim o k Atom ts p t us → Pattern lim o k Product ts p t us
  dot : {o k r t : ℕ} {w : At} {ts us vs : List Item} {p q : tree.Pattern} → Pattern lim o k Product ts p r ((Mark mark.Dot, w) ∷ us) → Room lim w o (k + pattern_operators p) → Pattern lim o (suc (k + pattern_operators p)) Atom us q t vs → Pattern lim o k Product ts (tree.ProdPattern p q) t vs
  product : {o k t : ℕ} {ts us : List Item} {p : tree.Pattern} → Pattern lim o k Product ts p t us → Pattern lim o k Whole ts p t us
  plus : {o k r t : ℕ} {w : At} {ts us vs : List Item} {p q : tree.Pattern} → Pattern lim o k Whole ts p r ((Mark mark.Plus, w) ∷ us) → Room lim w o (k + pattern_operators p) → Pattern lim o (suc (k + pattern_operators p)) Product us q t vs → Pattern lim o k Whole ts (tree.SumPattern p q) t vs

-- one or more of a kind, with commas between
pub data Separated {A : Type 0} (One : List Item → A → List Item → Type 0) : List Item → List A → List Item → Type 0 where
  one : {ts us : List Item} {a : A} → One ts a us → Separated One ts (a ∷ []) us
  more : {w : At} {ts us vs : List Item} {xs : List A} {a : A} → Separated One ts xs ((Mark mark.Comma, w) ∷ us) → One us a vs → Separated One ts (xs ++ a ∷ []) vs

-- none, or some with commas between
pub data Optional {A : Type 0} (One : List Item → A → List Item → Type 0) : List Item → List A → List Item → Type 0 where
  none : {ts : List Item} → Optional One ts [] ts
  some : {ts us : List Item} {xs : List A} → Separated One ts xs us → Optional One ts xs us

-- an argument
abbrev pub Arg : Limits → ℕ → List Item → tree.Expr → List Item → Type 0
Arg lim o ts e us = (f : ℕ) × (t : ℕ) × Expr lim o 0 Whole ts (e, f) t us

-- a name that a clause binds
pub data Binder : List Item → tree.Name → List Item → Type 0 where
  binder : {x : List ℕ} {w : At} {us : List Item} → Binder ((Name x, w) ∷ us) (named x w) us

-- a part of a term: a term that needs no braces to be bound, or any
pub data Part : Type 0 where
  Simple : Part
  Any : Part

mutual
  -- the tokens begin with a term, and its text begins at the offset f
  pub data Term (lim : Limits) : ℕ → ℕ → Part → List Item → tree.Term → ℕ → List Item → Type 0 where
    value : {o s t : ℕ} {ts us : List Item} {a : Operand} → Expr lim o 0 Whole ts a t us → Term lim o s Simple ts (tree.ValueTerm a.0 (span a.1 t)) a.1 us
    print : {o s t : ℕ} {w v z : At} {ts us : List Item} {a : Operand} → Room lim v o 0 → Expr lim (suc o) 0 Whole ts a t ((Mark mark.RoundClose, z) ∷ us) → Term lim o s Simple ((Word word.Print, w) ∷ (Mark mark.RoundOpen, v) ∷ ts) (tree.PrintTerm a.0 (span w.from z.to)) w.from us
    new : {o s : ℕ} {w v n z : At} {x : List ℕ} {us : List Item} → Room lim v o 0 → Term lim o s Simple ((Word word.New, w) ∷ (Mark mark.SquareOpen, v) ∷ (Name x, n) ∷ (Mark mark.SquareClose, z) ∷ us) (tree.NewTerm (named x n) (span w.from z.to)) w.from us
    spawn : {o s f : ℕ} {w v z : At} {ts us : List Item} {m : tree.Term} → Room lim v o 0 → Term lim (suc o) s Any ts m f ((Mark mark.CurlyClose, z) ∷ us) → Term lim o s Simple ((Word word.Spawn, w) ∷ (Mark mark.CurlyOpen, v) ∷ ts) (tree.SpawnTerm m (span w.from z.to)) w.from us
    free : {o s : ℕ} {w v n z : At} {x : List ℕ} {us : List Item} → Room lim v o 0 → Term lim o s Simple ((Word word.Free, w) ∷ (Mark mark.RoundOpen, v) ∷ (Name x, n) ∷ (Mark mark.RoundClose, z) ∷ us) (tree.FreeTerm (named x n) (span w.from z.to)) w.from us
    send : {o s : ℕ} {a b c v z : At} {x y : List ℕ} {ts us : List Item} {es : List tree.Expr} → Room lim v o 0 → Optional (Arg lim (suc o)) ts es ((Mark mark.RoundClose, z) ∷ us) → Term lim o s Simple ((Name x, a) ∷ (Mark mark.Bang, b) ∷ (Name y, c) ∷ (Mark mark.RoundOpen, v) ∷ ts) (tree.SendTerm (named x a) (named y c) es (span a.from z.to)) a.from us
    call : {o s : ℕ} {a v z : At} {x : List ℕ} {ts us : List Item} {es : List tree.Expr} → Room lim v o 0 → Optional (Arg lim (suc o)) ts es ((Mark mark.RoundClose, z) ∷ us) → Term lim o s Simple ((Name x, a) ∷ (Mark mark.RoundOpen, v) ∷ ts) (tree.CallTerm (named x a) es (span a.from z.to)) a.from us
    branch : {o s t f g : ℕ} {w v c l d z : At} {ts us vs xs : List Item} {a : Operand} {m n : tree.Term} → Expr lim o 0 Whole ts a t ((Mark mark.CurlyOpen, v) ∷ us) → Room lim v o 0 → Term lim (suc o) s Any us m f ((Mark mark.CurlyClose, c) ∷ (Word word.Else, l) ∷ (Mark mark.CurlyOpen, d) ∷ vs) → Room lim d o 0 → Term lim (suc o) s Any vs n g ((Mark mark.CurlyClose, z) ∷ xs) → Term lim o s Simple ((Word word.If, w) ∷ ts) (tree.IfTerm a.0 m n (span w.from z.to)) w.from xs
    guard : {o s t : ℕ} {w n c v z : At} {x : List ℕ} {ts us vs : List Item} {p : tree.Pattern} {cs : List tree.Clause} → Pattern lim o 0 Whole ts p t ((Mark mark.CurlyOpen, v) ∷ us) → Room lim v o 0 → Clauses lim o s true us cs ((Mark mark.CurlyClose, z) ∷ vs) → Term lim o s Simple ((Word word.Guard, w) ∷ (Name x, n) ∷ (Mark mark.Colon, c) ∷ ts) (tree.GuardTerm (named x n) p (listed cs) (span w.from z.to)) w.from vs
    block : {o s f : ℕ} {w z : At} {ts us : List Item} {m : tree.Term} → Room lim w o 0 → Term lim (suc o) s Any ts m f ((Mark mark.CurlyClose, z) ∷ us) → Term lim o s Simple ((Mark mark.CurlyOpen, w) ∷ ts) m w.from us
    simple : {o s f : ℕ} {ts us : List Item} {m : tree.Term} → Term lim o s Simple ts m f us → Term lim o s Any ts m f us
    then : {o s f g : ℕ} {w : At} {ts us vs : List Item} {m n : tree.Term} → Term lim o s Simple ts m f ((Mark mark.Semicolon, w) ∷ us) → RoomBelow lim w s → Term lim o (suc s) Any us n g vs → Term lim o s Any ts (tree.LetTerm None m n (span f (term_at n).to)) f vs
    bind : {o s f g : ℕ} {w n c i : At} {x : List ℕ} {ts us vs : List Item} {a b : tree.Term} → Term lim o s Simple ts a f ((Word word.In, i) ∷ us) → RoomBelow lim i s → Term lim o (suc s) Any us b g vs → Term lim o s Any ((Word word.Let, w) ∷ (Name x, n) ∷ (Mark mark.Equals, c) ∷ ts) (tree.LetTerm (Some (named x n)) a b (span w.from (term_at b).to)) w.from vs

  -- the tokens begin with clauses in a row, and whether there are any; o doesn't count the brace of the guard
  pub data Clauses (lim : Limits) : ℕ → ℕ → Bool → List Item → List tree.Clause → List Item → Type 0 where
    no_clause : {o s : ℕ} {ts : List Item} → Clauses lim o s false ts [] ts
    fail_clause : {o s : ℕ} {b : Bool} {w : At} {ts us : List Item} {cs : List tree.Clause} → Clauses lim o s b ts cs ((Word word.Fail, w) ∷ us) → Clauses lim o s true ts (cs ++ tree.FailClause (place_of w) ∷ []) us
    free_clause : {o s f : ℕ} {b : Bool} {w a : At} {ts us vs : List Item} {cs : List tree.Clause} {m : tree.Term} → Clauses lim o s b ts cs ((Word word.Free, w) ∷ (Mark mark.Arrow, a) ∷ us) → Term lim (suc o) s Any us m f vs → Clauses lim o s true ts (cs ++ tree.FreeClause (place_of w) m ∷ []) vs
    receive_clause : {o s f : ℕ} {b : Bool} {w n v z r h a : At} {x y : List ℕ} {ts us vs xs : List Item} {cs : List tree.Clause} {ns : List tree.Name} {m : tree.Term} → Clauses lim o s b ts cs ((Word word.Receive, w) ∷ (Name x, n) ∷ (Mark mark.RoundOpen, v) ∷ us) → Room lim v (suc o) 0 → Optional Binder us ns ((Mark mark.RoundClose, z) ∷ (Word word.From, r) ∷ (Name y, h) ∷ (Mark mark.Arrow, a) ∷ vs) → Term lim (suc o) s Any vs m f xs → Clauses lim o s true ts (cs ++ tree.ReceiveClause (place_of w) (named x n) ns (named y h) m ∷ []) xs

-- the tokens begin with a type; a payload's mailbox type has a pattern
pub data WrittenType (lim : Limits) (o : ℕ) (payload : Bool) : List Item → tree.WrittenType → List Item → Type 0 where
  base : {c : Token} {b : Base} {w : At} {us : List Item} → base_named c ≡ Some b → WrittenType lim o payload ((c, w) ∷ us) (tree.BaseType b (place_of w)) us
  mailbox : {x : List ℕ} {c : Token} {q : Polarity} {t : ℕ} {w v : At} {ts us : List Item} {p : tree.Pattern} → polarity_of c ≡ Some q → Pattern lim o 0 Whole ts p t us → WrittenType lim o payload ((Name x, w) ∷ (c, v) ∷ ts) (tree.MailboxType (named x w) q (Some p) (span w.from t)) us
  short : {x : List ℕ} {c : Token} {q : Polarity} {w v : At} {us : List Item} → payload ≡ false → polarity_of c ≡ Some q → WrittenType lim o payload ((Name x, w) ∷ (c, v) ∷ us) (tree.MailboxType (named x w) q None (span w.from v.to)) us

-- a message of an interface
pub data Message (lim : Limits) : List Item → tree.Message → List Item → Type 0 where
  message : {x : List ℕ} {w v z : At} {ts us : List Item} {xs : List tree.WrittenType} → Room lim v 1 0 → Optional (WrittenType lim 2 true) ts xs ((Mark mark.RoundClose, z) ∷ us) → Message lim ((Name x, w) ∷ (Mark mark.RoundOpen, v) ∷ ts) (record { name = named x w; payloads = xs }) us

-- a parameter of a function
pub data Param (lim : Limits) : List Item → tree.Param → List Item → Type 0 where
  param : {x : List ℕ} {w c : At} {ts us : List Item} {a : tree.WrittenType} → WrittenType lim 1 false ts a us → Param lim ((Name x, w) ∷ (Mark mark.Colon, c) ∷ ts) (record { name = named x w; type = a }) us

-- the tokens begin with declarations in a row, whether there are any
pub data Decls (lim : Limits) : Bool → List Item → List tree.Decl → List Item → Type 0 where
  no_decl : {ts : List Item} → Decls lim false ts [] ts
  interface : {b : Bool} {x : List ℕ} {w n v z : At} {ts us vs : List Item} {ds : List tree.Decl} {xs : List tree.Message} → Decls lim b ts ds ((Word word.Interface, w) ∷ (Name x, n) ∷ (Mark mark.CurlyOpen, v) ∷ us) → Room lim v 0 0 → Separated (Message lim) us xs ((Mark mark.CurlyClose, z) ∷ vs) → Decls lim true ts (ds ++ tree.InterfaceDecl (named x n) xs ∷ []) vs
  function : {b : Bool} {f : ℕ} {x : List ℕ} {w n v z c d e : At} {ts us vs xs ys : List Item} {ds : List tree.Decl} {ps : List tree.Param} {r : tree.WrittenType} {m : tree.Term} → Decls lim b ts ds ((Word word.Def, w) ∷ (Name x, n) ∷ (Mark mark.RoundOpen, v) ∷ us) → Room lim v 0 0 → Optional (Param lim) us ps ((Mark mark.RoundClose, z) ∷ (Mark mark.Colon, c) ∷ vs) → WrittenType lim 0 false vs r ((Mark mark.CurlyOpen, d) ∷ xs) → Room lim d 0 0 → Term lim 1 0 Any xs m f ((Mark mark.CurlyClose, e) ∷ ys) → Decls lim true ts (ds ++ tree.DefDecl (named x n) ps r m ∷ []) ys

-- the tokens, to the last, spell the tree
abbrev pub Spells : Limits → List Item → tree.Tree → Type 0
Spells lim ts ds = Decls lim true ts ds []
