-- Why a text is refused: the fault of the text, or of its program, as a command tells it.
use Rattle.c_reader.specs.declared.fault.ReadFault.{ReadFault}
use Rattle.c_reader.specs.declared.fault.ReadFault.TheVariants as text
use Rattle.c_types.specs.declared.fault.CheckFault.{CheckFault}
use Rattle.c_types.specs.declared.fault.CheckFault.TheVariants as rule
use Rattle.chain_listing.specs.declared.fault.ListFault.{ListFault}
use Rattle.chain_listing.specs.declared.fault.ListFault.TheVariants as listing
use Rattle.ckpt_program.specs.declared.refusal.Refusal.TheVariants as refusal
use Rattle.ckpt_program.specs.declared.stop.Document.TheVariants as document
use Rattle.ckpt_program.specs.declared.stop.Cause.TheVariants.{Refused, TooLarge, DiskFault, Damaged}
use Rattle.ckpt_program.specs.declared.stop.Stop.{Stop}
use Rattle.ckpt_program.specs.declared.stop.Stop.TheVariants.{NoMemory, Because}

-- the text spells no program
abbrev pub stop_of_text : ReadFault → Stop
stop_of_text text.Memory = NoMemory
stop_of_text (text.TooLong n) = Because (TooLarge document.Source)
stop_of_text (text.BadByte place) = Because (Refused (refusal.BadByte place))
stop_of_text (text.BadNumber place) = Because (Refused (refusal.BadNumber place))
stop_of_text text.UnendedComment = Because (Refused refusal.UnendedComment)
stop_of_text (text.Syntax line) = Because (Refused (refusal.Syntax line))

-- its program breaks a rule
abbrev pub stop_of_rule : CheckFault → Stop
stop_of_rule rule.Memory = NoMemory
stop_of_rule (rule.Unknown name) = Because (Refused (refusal.Unknown name))
stop_of_rule (rule.Twice name) = Because (Refused (refusal.Twice name))
stop_of_rule rule.NoMain = Because (Refused refusal.NoMain)
stop_of_rule (rule.WrongType line) = Because (Refused (refusal.WrongType line))
stop_of_rule (rule.WrongCount line) = Because (Refused (refusal.WrongCount line))
stop_of_rule (rule.DirectiveOutsideMain line) = Because (Refused (refusal.DirectiveOutsideMain line))
stop_of_rule (rule.CallsMain line) = Because (Refused (refusal.CallsMain line))
stop_of_rule (rule.TooManyCells n) = Because (Refused (refusal.TooManyCells n))
stop_of_rule (rule.TooManyLocals name) = Because (Refused (refusal.TooManyLocals name))
stop_of_rule (rule.TooManyNodes n) = Because (Refused (refusal.TooManyNodes n))
stop_of_rule (rule.TooManyDirectives n) = Because (Refused (refusal.TooManyDirectives n))

-- the records of its store are not listed
abbrev pub stop_of_listing : ListFault → Stop
stop_of_listing listing.Memory = NoMemory
stop_of_listing listing.Failed = Because DiskFault
stop_of_listing (listing.Damaged file place) = Because (Damaged file place)
