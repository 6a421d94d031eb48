-- The reserved words, which are no names.
use Rattle.std.specs.Prelude.{ℕ, List, codes}

-- a reserved word
pub data Reserved : Type 0 where
  Interface : Reserved
  Def : Reserved
  Let : Reserved
  In : Reserved
  If : Reserved
  Else : Reserved
  Print : Reserved
  New : Reserved
  Spawn : Reserved
  Guard : Reserved
  Free : Reserved
  Fail : Reserved
  Receive : Reserved
  From : Reserved
  TrueWord : Reserved
  FalseWord : Reserved
  UnitWord : Reserved
  BoolWord : Reserved
  IntWord : Reserved
  StringWord : Reserved

-- the bytes of a reserved word
abbrev pub word_bytes : Reserved → List ℕ
word_bytes Interface = codes "interface"
word_bytes Def = codes "def"
word_bytes Let = codes "let"
word_bytes In = codes "in"
word_bytes If = codes "if"
word_bytes Else = codes "else"
word_bytes Print = codes "print"
word_bytes New = codes "new"
word_bytes Spawn = codes "spawn"
word_bytes Guard = codes "guard"
word_bytes Free = codes "free"
word_bytes Fail = codes "fail"
word_bytes Receive = codes "receive"
word_bytes From = codes "from"
word_bytes TrueWord = codes "true"
word_bytes FalseWord = codes "false"
word_bytes UnitWord = codes "Unit"
word_bytes BoolWord = codes "Bool"
word_bytes IntWord = codes "Int"
word_bytes StringWord = codes "String"
