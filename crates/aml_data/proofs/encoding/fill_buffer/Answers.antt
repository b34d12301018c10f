use Rattle.std.proofs.Common.{◌+◌, ◌-◌, length, length-append, arith}
use Rattle.aml_data.specs.Written.{written_constant}
use Rattle.aml_data.proofs.Room.{Fills-sized, buffer_room, told}
use Rattle.aml_data.proofs.WrittenLayers.{written-Buffer}
use Rattle.aml_data.proofs.encoding.fill_buffer.Goals as goal

pub fill-bytes-requires-clause-fits : goal.fill-bytes-requires-clause-fits
fill-bytes-requires-clause-fits c =
    let buffer = c.args.buffer.now in
    let room = buffer_room buffer.size buffer.bytes c.args.end c.requires.short c.requires.fits in
    let head = room.head in
    rw c.as_slice.ensures (omega arith)

pub fill_constant-content-requires-clause-fits : goal.fill_constant-content-requires-clause-fits
fill_constant-content-requires-clause-fits c =
    let buffer = c.args.buffer.now in
    let room = buffer_room buffer.size buffer.bytes c.args.end c.requires.short c.requires.fits in
    let head = room.head in
    let reach = (rw c.as_slice.ensures at c.fill-bytes.ensures).reach in
    omega arith

pub fill_head-requires-clause-short : goal.fill_head-requires-clause-short
fill_head-requires-clause-short c =
    let buffer = c.args.buffer.now in
    let n = length (written_constant buffer.size) + length buffer.bytes in
    let room = buffer_room buffer.size buffer.bytes c.args.end c.requires.short c.requires.fits in
    let bytes = (rw c.as_slice.ensures at c.fill-bytes.ensures).reach in
    let size = c.fill_constant-content.ensures.reach in
    (told n c.fill_constant-content.result c.args.end room (omega arith)).fits

pub fill_head-requires-clause-fits : goal.fill_head-requires-clause-fits
fill_head-requires-clause-fits c =
    let buffer = c.args.buffer.now in
    let n = length (written_constant buffer.size) + length buffer.bytes in
    let room = buffer_room buffer.size buffer.bytes c.args.end c.requires.short c.requires.fits in
    let bytes = (rw c.as_slice.ensures at c.fill-bytes.ensures).reach in
    let size = c.fill_constant-content.ensures.reach in
    (told n c.fill_constant-content.result c.args.end room (omega arith)).head

pub returns : goal.returns
returns c =
    let buffer = c.args.buffer.now in
    let count = written_constant buffer.size in
    let filled = rw c.as_slice.ensures at c.fill-bytes.ensures in
    let bytes = filled.reach in
    let size = c.fill_constant-content.ensures.reach in
    rw (written-Buffer buffer.size buffer.bytes)
    (Fills-sized c.args.room.now c.fill-bytes.new.room c.fill_constant-content.new.room c.fill_head.new.room c.fill_head.result c.fill_constant-content.result c.fill-bytes.result c.args.end 17
    (c.args.end - c.fill_constant-content.result) count buffer.bytes (omega (arith, length-append count buffer.bytes)) filled c.fill_constant-content.ensures c.fill_head.ensures)
