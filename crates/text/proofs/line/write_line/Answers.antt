-- Why `write_line` keeps what it promises. Assumes nothing.
use Rattle.std.proofs.Common.{◌≡◌, length, ap, ◌∙◌}
use Rattle.text.specs.Fields.{field_of}
use Rattle.text.proofs.Fields.{length_field}
use Rattle.text.proofs.Puts.{line_put}
use Rattle.text.proofs.line.write_line.Goals as goal

pub returns : goal.returns
returns c =
    let t = c.args.triple in
    let one : c.write_field.new.out ≡ field_of t.first = c.write_field.ensures in
    let two : c.write_field-2.new.out ≡ field_of t.second = c.write_field-2.ensures in
    let three : c.write_field-3.new.out ≡ field_of t.third = c.write_field-3.ensures in
    line_put c.args.out.now c.write_field.new.out c.write_field-2.new.out c.write_field-3.new.out c.requires.0
    (ap length one ∙ length_field t.first c.requires.1.0) (ap length two ∙ length_field t.second c.requires.1.1) (ap length three ∙ length_field t.third c.requires.1.2) ∙
    rw (one, two, three)
