-- Configurations whose strings a program's text can have.
use Rattle.std.specs.List.{AllByRecursion}
use Rattle.pat_lexer_spec.specs.Spelled.{IsString}
use Rattle.pat_semantics_spec.specs.Values.{TextConst, Constant, Value, Const, Mailbox, Env}
use Rattle.pat_semantics_spec.specs.Configs.{Control, Running, Returned, Thread, Config}

-- where the value is a string, it is one that a token spells
abbrev pub IsSpelledConstant : Constant → Type 0
IsSpelledConstant (TextConst s) = IsString s
IsSpelledConstant _ = Unit {0}

abbrev pub IsSpelledValue : Value → Type 0
IsSpelledValue (Const c) = IsSpelledConstant c
IsSpelledValue (Mailbox a) = Unit {0}

abbrev pub IsSpelledEnv : Env → Type 0
IsSpelledEnv env = AllByRecursion (λ e. IsSpelledValue e.1) env

abbrev pub IsSpelledControl : Control → Type 0
IsSpelledControl (Running n env) = IsSpelledEnv env
IsSpelledControl (Returned v) = IsSpelledValue v

abbrev pub IsSpelledThread : Thread → Type 0
IsSpelledThread s = IsSpelledControl s.control × AllByRecursion (λ f. IsSpelledEnv f.env) s.frames

-- the strings among the values of threads and of messages are ones that tokens spell
pub record HasSpelledStrings (c : Config) : Type 0 where
  pub threads : AllByRecursion (λ e. IsSpelledThread e.1) c.threads
  pub messages : AllByRecursion (λ m. AllByRecursion IsSpelledValue m.values) c.messages
