-- The text of an answer.
use Rattle.std.specs.Prelude.{ℕ, List, ◌++◌, ℤ, Some, None, codes, decimal, Option}
use Rattle.std.specs.Fmt.{signed_decimal}
use Rattle.kinds.specs.Faults.{number_of}
use Rattle.lines.specs.declared.replies.Reply.{Reply}
use Rattle.lines.specs.declared.replies.Reply.TheVariants.{Open, Table, Joined, Weighs, Parted, Same, Different, Unknown, Refused}
use Rattle.lines.specs.declared.replies.Answer.{Answer}
use Rattle.lines.specs.Words.{letters}

-- a weight: a whole number, or a hyphen for none
abbrev pub weight_text : Option ℤ → List ℕ
weight_text None = codes "-"
weight_text (Some z) = signed_decimal z

-- what stands behind the line's number
abbrev pub reply_text : Reply → List ℕ
reply_text Open = codes "open"
reply_text (Table t) = codes "table," ++ decimal t
reply_text Joined = codes "joined"
reply_text (Weighs w) = codes "weighs," ++ weight_text w
reply_text (Parted p v w) = codes "parted," ++ (decimal p ++ (codes "," ++ (weight_text v ++ (codes "," ++ weight_text w))))
reply_text Same = codes "same"
reply_text (Different p w) = codes "different," ++ (decimal p ++ (codes "," ++ letters w))
reply_text Unknown = codes "unknown"
reply_text (Refused f) = codes "refused," ++ (decimal (number_of f.refusal) ++ (codes "," ++ decimal f.place))

-- the line's number, a comma and the reply
abbrev pub answer_text : Answer → List ℕ
answer_text a = decimal a.line ++ (codes "," ++ reply_text a.reply)
