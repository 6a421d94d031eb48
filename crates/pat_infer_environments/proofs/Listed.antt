-- What arguments need, one argument more.
use Rattle.std.proofs.Common.{◌≡◌, ℕ, suc, ◌<◌, ◌||◌, length, map, drop, get_or, nat_eq, if◌then◌else◌, true, false, List, [], ◌∷◌, Option, Some, None, refl, sym, ap, ◌∙◌}
use Rattle.std.specs.Prelude.{is_some}
use Rattle.std.proofs.Math.Seq.{drop-cons}
use Rattle.pat_semantics_spec.specs.Values.{Expr, VarExpr, Literal, OpExpr}
use Rattle.pat_semantics_spec.specs.Programs.{is_among}
use Rattle.pat_type_system_spec.specs.Types.{MailboxType, TypeEnv}
use Rattle.pat_type_system_spec.specs.Typings.{if_mailbox, mailbox_args}
use Rattle.pat_type_schemes_spec.specs.NodeTypes.{Needs, need_of}
use Rattle.pat_infer_spec.specs.Needs.{put, put_option, args_needs}
use Rattle.pat_infer_spec.specs.Walk.{has_twice}
use Rattle.pat_infer_laws.proofs.Lookups.{eq_turn, need_put}
use Rattle.pat_core.specs.Views.{expr_view}
use Rattle.pat_core.specs.declared.expression.Expr.{Expr as CodeExpr}
use Rattle.pat_infer_environments.specs.Types.{with_argument, twice_with}

pub needs_more : (types : TypeEnv) (k : ℕ) (e : Expr) (es : List Expr) → args_needs types k (e ∷ es) ≡ with_argument (types k) e (args_needs types (suc k) es)
needs_more types k (VarExpr x) es = go (types k)
  where
    go : (o : Option MailboxType) → put_option x o (args_needs types (suc k) es) ≡ with_argument o (VarExpr x) (args_needs types (suc k) es)
    go None = refl
    go (Some a) = refl
needs_more types k (Literal c) es = no_more (types k)
  where
    no_more : (o : Option MailboxType) → args_needs types (suc k) es ≡ with_argument o (Literal c) (args_needs types (suc k) es)
    no_more None = refl
    no_more (Some a) = refl
needs_more types k (OpExpr op a b) es = no_more (types k)
  where
    no_more : (o : Option MailboxType) → args_needs types (suc k) es ≡ with_argument o (OpExpr op a b) (args_needs types (suc k) es)
    no_more None = refl
    no_more (Some c) = refl

pub among_args : (types : TypeEnv) (k : ℕ) (es : List Expr) (z : ℕ) → is_some (need_of (args_needs types k es) z) ≡ is_among z (mailbox_args types k es)
among_args types k [] z = refl
among_args types k (VarExpr x ∷ es) z = go (types k) (among_args types (suc k) es z)
  where
    go : (o : Option MailboxType) → is_some (need_of (args_needs types (suc k) es) z) ≡ is_among z (mailbox_args types (suc k) es) → is_some (need_of (put_option x o (args_needs types (suc k) es)) z) ≡ is_among z (if_mailbox o x (mailbox_args types (suc k) es))
    go None ih = ih
    go (Some a) ih =
        let rest : Needs = args_needs types (suc k) es in
        let xs : List ℕ = mailbox_args types (suc k) es in
        ap is_some (need_put x a rest z)
        ∙ (elim (nat_eq x z) as (λ b. is_some (if b then Some a else need_of rest z) ≡ (b || is_among z xs)) [ true ↦ refl | false ↦ ih ])
        ∙ ap (λ b. b || is_among z xs) (eq_turn x z)
among_args types k (Literal c ∷ es) z = among_args types (suc k) es z
among_args types k (OpExpr op a b ∷ es) z = among_args types (suc k) es z

pub twice_more : (types : TypeEnv) (k : ℕ) (e : Expr) (es : List Expr) → has_twice (mailbox_args types k (e ∷ es)) ≡ twice_with (types k) e (args_needs types (suc k) es) (has_twice (mailbox_args types (suc k) es))
twice_more types k (VarExpr x) es = go (types k)
  where
    go : (o : Option MailboxType) → has_twice (if_mailbox o x (mailbox_args types (suc k) es)) ≡ twice_with o (VarExpr x) (args_needs types (suc k) es) (has_twice (mailbox_args types (suc k) es))
    go None = refl
    go (Some a) = ap (λ b. b || has_twice (mailbox_args types (suc k) es)) (sym (among_args types (suc k) es x))
twice_more types k (Literal c) es = no_more (types k)
  where
    no_more : (o : Option MailboxType) → has_twice (mailbox_args types (suc k) es) ≡ twice_with o (Literal c) (args_needs types (suc k) es) (has_twice (mailbox_args types (suc k) es))
    no_more None = refl
    no_more (Some a) = refl
twice_more types k (OpExpr op a b) es = no_more (types k)
  where
    no_more : (o : Option MailboxType) → has_twice (mailbox_args types (suc k) es) ≡ twice_with o (OpExpr op a b) (args_needs types (suc k) es) (has_twice (mailbox_args types (suc k) es))
    no_more None = refl
    no_more (Some c) = refl

-- ---- along a list of the code's expressions

pub one_argument : (types : TypeEnv) (args : List CodeExpr) (n m : ℕ) (e : CodeExpr) → suc n ≡ m → drop n args ≡ e ∷ drop m args → args_needs types n (map expr_view (drop n args)) ≡ with_argument (types n) (expr_view e) (args_needs types m (map expr_view (drop m args)))
one_argument types args n m e s d =
    ap (λ es. args_needs types n (map expr_view es)) d
    ∙ needs_more types n (expr_view e) (map expr_view (drop m args))
    ∙ ap (λ j. with_argument (types n) (expr_view e) (args_needs types j (map expr_view (drop m args)))) s

pub one_twice : (types : TypeEnv) (args : List CodeExpr) (n m : ℕ) (e : CodeExpr) → suc n ≡ m → drop n args ≡ e ∷ drop m args → has_twice (mailbox_args types n (map expr_view (drop n args))) ≡ twice_with (types n) (expr_view e) (args_needs types m (map expr_view (drop m args))) (has_twice (mailbox_args types m (map expr_view (drop m args))))
one_twice types args n m e s d =
    ap (λ es. has_twice (mailbox_args types n (map expr_view es))) d
    ∙ twice_more types n (expr_view e) (map expr_view (drop m args))
    ∙ ap (λ j. twice_with (types n) (expr_view e) (args_needs types j (map expr_view (drop m args))) (has_twice (mailbox_args types j (map expr_view (drop m args))))) s

pub at_place : {A : Type 0} (xs : List A) (n m : ℕ) (x : A) → suc n ≡ m → n < length xs → x ≡ get_or xs n x → drop n xs ≡ x ∷ drop m xs
at_place xs n m x s h e = drop-cons xs n x h ∙ ap (λ y. y ∷ drop (suc n) xs) (sym e) ∙ ap (λ j. x ∷ drop j xs) s
